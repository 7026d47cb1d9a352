-- A yes of the checker, as it is answered.
use Rattle.std.proofs.Common.{◌≡◌, ℕ, List, [], get_or, Some, sym, ◌∙◌, slice_get}
use Rattle.std.proofs.lemmas.List.Quantifiers.{position-Some}
use Rattle.std.proofs.lemmas.Option.{get_or_from_slice_get}
use Rattle.std.proofs.lemmas.Slice.Eq.{bytes_eq-Decides}
use Rattle.std.specs.Str.{bytes_eq}
use Rattle.std.specs.Prelude.{position}
use Rattle.gate_values.specs.declared.Value.{Value}
use Rattle.design.specs.Joined.{Joined}
use Rattle.why_proofs.specs.Verdicts.{RightYes, IsTrueYes}
use Rattle.why_proofs.specs.declared.checker.Checked.TheVariants.{Yes}
use Rattle.backsim_check.specs.Answers.{IsYes, IsTrue}
use Rattle.backsim_check.specs.Texts.{yes_line}

-- the signal of a name has that name
named : (name found : List ℕ) (names : List (List ℕ)) (signal : ℕ) → position (bytes_eq name) names ≡ Some signal → slice_get names signal ≡ Some found → name ≡ found
named name found names signal at is =
    (bytes_eq-Decides name (get_or names signal [])).0 (position-Some (bytes_eq name) names signal [] at).1 ∙ get_or_from_slice_get names signal found [] is

-- the line has the name that the proof has
pub gives-yes : (d : Joined) (text line name : List ℕ) (signal time : ℕ) (v : Value) → RightYes d text (Yes signal time v) → IsTrueYes d (Yes signal time v)
    → slice_get d.netlist.names signal ≡ Some name → line ≡ yes_line name time v → IsYes d text line × IsTrue d line
gives-yes d text line name signal time v (p, spelled, justified, time_is, v_is) holds name_is line_is =
    let same : p.name ≡ name = named p.name name d.netlist.names signal justified.claim.name name_is in (
      record {
        proof = p;
        signal = signal;
        spelled = spelled;
        justified = justified;
        line_is = rw (same, sym time_is, sym v_is) line_is;
      },
      record {
        name = name;
        time = time;
        v = v;
        signal = signal;
        line_is = line_is;
        named = rw (sym same) justified.claim.name;
        within = rw time_is justified.claim.time;
        holds = holds;
      },
    )
