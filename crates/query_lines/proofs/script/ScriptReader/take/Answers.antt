use Rattle.std.proofs.Common.{ℕ, refl, subst, sym, ◌∙◌, Ok}
use Rattle.query_lines.specs.Readers.{Reader, HasRead}
use Rattle.query_lines.specs.inner.Reading.{ReadsLine}
use Rattle.query_lines.proofs.Feeding.{taken, taken_line, given_fits}
use Rattle.query_lines.proofs.script.ScriptReader.take.Goals as goal

-- a byte that is no line feed was taken
pub returns-then-byte-ne10-clause-read : goal.returns-then-byte-ne10-clause-read
returns-then-byte-ne10-clause-read c horizon script given read =
    let old : Reader = record { cutter = c.self.inside.cutter; pending = c.self.inside.batcher; lines = c.self.inside.lines } in
    let new : Reader = record old { cutter = c.take.new.self } in
    taken horizon script given c.from_vec.result old new c.args.byte (subst (λ (r : Reader). HasRead horizon script given r) (sym c.self.view_is) read) c.if-byte-ne10.true refl refl
    (λ line holds. (c.take.ensures.more line holds c.if-byte-ne10.true).1) (c.from_vec.ensures ∙ c.new.ensures.items)

-- a line was read, and its line feed taken
pub returns-clause-read : goal.returns-clause-read
returns-clause-read c horizon script given read =
    let mid : Reader = record { cutter = c.self-2.inside.cutter; pending = c.self-2.inside.batcher; lines = c.self-2.inside.lines } in
    let new : Reader = record mid { cutter = c.take-2.new.self } in
    taken_line horizon script given c.in_ok-units.units c.args.self.now mid new c.args.byte c.take-2.result read c.if-byte-ne10.false
    (λ line holds. subst (λ (r : Reader). ReadsLine line c.args.self.now r c.in_ok-units.units) (sym c.self-2.view_is) (c.in_ok-units.ensures.read line holds))
    (λ line holds. c.take-2.ensures.end line holds c.if-byte-ne10.false) refl refl

pub returns-clause-within : goal.returns-clause-within
returns-clause-within c horizon script given read bound = given_fits {E = ℕ} horizon _ given _ (Ok c.in_ok-units.units) bound (returns-clause-read c horizon script given read)
