-- The lemmas of this crate for callers: what proofs of other crates cite, and nothing else.
pub use Rattle.texts.proofs.Comments.{content_clean, is_clean, name_clean, number_clean, words_clean}
pub use Rattle.texts.proofs.Cuts.{found, found_none, keeps_first}
pub use Rattle.texts.proofs.Digits.{number_is, with_digit, within}
pub use Rattle.texts.proofs.Stream.{is_plain, line_front, line_last, no_line, not_feed, plain_push}
pub use Rattle.texts.proofs.Rows.{rows-push}
pub use Rattle.texts.proofs.Numbers.{EndsNumber, own}
pub use Rattle.texts.proofs.FieldLemmas.{after_takes, bind_some, field_again, field_takes, value_again, value_takes}
pub use Rattle.texts.proofs.Items.{AreRead, AreSpelled, items_again, items_count, items_take, put_all, put_next, shorter}
