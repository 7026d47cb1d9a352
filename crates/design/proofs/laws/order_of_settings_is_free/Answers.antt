use Rattle.design.proofs.SettingOrder.{order-is-free}
use Rattle.design.proofs.laws.order_of_settings_is_free.Goals as goal

pub returns : goal.returns
returns c = order-is-free
