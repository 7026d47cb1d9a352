-- A trim is legal, and leaves the first cells.
use Rattle.std.proofs.Common.{◌≡◌, ℕ, List, [], ◌∷◌, ◌++◌, take, drop, refl, sym, ap, ◌∙◌, append_assoc}
use Rattle.std.proofs.lemmas.List.{append-nil, take-append-drop}
use Rattle.valid_intervals.specs.declared.SignalCell.{SignalCell}
use Rattle.valid_intervals.specs.Cells.{all_but_last}
use Rattle.journal_meaning.specs.declared.Entry.{Entry}
use Rattle.journal_meaning.specs.declared.Entry.TheVariants.{Evicted}
use Rattle.journal_meaning.specs.States.{State, fresh, IsLeastRecent}
use Rattle.journal_meaning.specs.Table.{after}
use Rattle.journal_meaning.specs.Replay.{replay, EvictsLast, IsLegalTrim}
use Rattle.journal_meaning.specs.Trims.{evictions_back, trim_evictions}
use Rattle.journal_meaning.proofs.Lists.{front-snoc}
use Rattle.journal_meaning.proofs.More.{replay-more}

trim-more : (s : State) (es : List Entry) (e : Entry) → IsLegalTrim s es → EvictsLast (replay s es) e → IsLegalTrim s (es ++ e ∷ [])
trim-more s [] e h k = (k, tt)
trim-more s (x ∷ es) e h k = (h.0, trim-more (after s x) es e h.1 k)

record IsTrimmed (s : State) (es : List Entry) (left : List SignalCell) : Type 0 where
  legal : IsLegalTrim s es
  cells : (replay s es).cells ≡ left

trimmed : (s : State) (front back : List SignalCell) → s.cells ≡ front ++ back → IsTrimmed s (evictions_back back) front
trimmed s front [] e = record { legal = tt; cells = e ∙ append-nil front }
trimmed s front (x ∷ back) e =
    let k = trimmed s (front ++ x ∷ []) back (e ∙ sym (append_assoc front (x ∷ []) back)) in
    let es = evictions_back back in
    let entry = Evicted x.signal x.cell.span.start in
    let but : all_but_last (replay s es).cells ≡ front = ap all_but_last k.cells ∙ front-snoc front x in
    let last : IsLeastRecent (replay s es).cells x.signal x.cell.span.start = (x, k.cells ∙ ap (λ l. l ++ x ∷ []) (sym but), refl, refl) in
    record {
      legal = trim-more s es entry k.legal last;
      cells = ap (λ (z : State). z.cells) (replay-more s es entry) ∙ but;
    }

pub trim-legal : (n : ℕ) (cells : List SignalCell) → IsLegalTrim (fresh cells) (trim_evictions n cells)
trim-legal n cells = (trimmed (fresh cells) (take n cells) (drop n cells) (sym (take-append-drop n cells))).legal

pub trim-leaves : (n : ℕ) (cells : List SignalCell) → (replay (fresh cells) (trim_evictions n cells)).cells ≡ take n cells
trim-leaves n cells = (trimmed (fresh cells) (take n cells) (drop n cells) (sym (take-append-drop n cells))).cells
