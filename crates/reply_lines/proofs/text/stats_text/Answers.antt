use Rattle.std.proofs.Common.{append_assoc, refl}
use Rattle.reply_lines.proofs.text.stats_text.Goals as goal

pub returns : goal.returns
returns c =
    rw (c.in_ok-put_count-4.ensures, c.in_ok-put_count-3.ensures, c.in_ok-put_count-2.ensures, c.in_ok-put_count.ensures, c.in_ok-put.ensures, c.new-text.ensures.items)
    (simp append_assoc refl)
