-- The lemmas of this crate for callers: what proofs of other crates cite, and nothing else.
pub use Rattle.journal_meaning.proofs.Lists.{Differ, Each, Here, Stands, There, contains-one, each-append, each-filter, each-imply, each-left, each-right, each-stands, front-snoc, pairs_from, pairs_to, snoc_cases, stands-any}
pub use Rattle.journal_meaning.proofs.Claims.{cases_point, claim-here, claim-other, holder-claimed, holder-each, holder-ended, holder-without, no-claims, own-covers, without-other}
pub use Rattle.journal_meaning.proofs.BetweenFills.{again_after_eviction}
pub use Rattle.journal_meaning.proofs.Counted.{counts-add}
pub use Rattle.journal_meaning.proofs.Named.{ClaimsOurs, Needed, Ours, claim_ours, claims_ours, filled_needed, names, none_ours, still_ours}
pub use Rattle.journal_meaning.proofs.Budgets.{enough-budget}
pub use Rattle.journal_meaning.proofs.Fills.{one-fill-per_eviction}
pub use Rattle.journal_meaning.proofs.More.{booked-append, legal-more, replay-more, right-answers, right-within, still-fits, still-right}
pub use Rattle.journal_meaning.proofs.Grown.{added-each, added-more, added-none, added-one, children-kept, count-append, count-none, covered-kept, covered-now, filled-more, fills-none, for-other, grows-append, grows-more, grows-none, last-append, last-none, last-now, legal-home, others-filled, others-refusals, refusals-more, said-kept, spent-kept}
pub use Rattle.journal_meaning.proofs.Windows.{closed-by, covered-cell, right-entries, root-since, root-within, times-more}
pub use Rattle.journal_meaning.proofs.Index.{found-right, found-said, found-some, index-more, none-before, none-last, said-append, said-found}
pub use Rattle.journal_meaning.proofs.Trims.{trim-leaves, trim-legal}
pub use Rattle.journal_meaning.proofs.Pieces.{pieces-lawful}
