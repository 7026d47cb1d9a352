use Rattle.std.proofs.Common.{◌≡◌, ◌≤◌, List, Option, length, map, flat_map, refl, sym, subst}
use Rattle.journal_meaning.specs.declared.batch.Query.{Query}
use Rattle.journal_meaning.specs.Lawful.{IsLawful}
use Rattle.journal_meaning.specs.Pieces.{pieces}
use Rattle.session_meaning.specs.declared.Verdict.{Verdict}
use Rattle.session_meaning.specs.Session.{Setup}
use Rattle.session_meaning.specs.Verdicts.{verdict_of, queries_of}
use Rattle.unit_answers.specs.Crewed.{HasCrewed}
use Rattle.unit_answers.specs.Stores.{setup_of, cells_of}
use Rattle.unit_answers.specs.inner.Placed as places
use Rattle.unit_answers.specs.inner.Runs.{asks, HasRun}
use Rattle.unit_answers.proofs.Answering.{asked-by, outcomes-asked}
use Rattle.unit_answers.proofs.Done.{batch-done}
use Rattle.unit_answers.proofs.Few.{batch-few}
use Rattle.unit_answers.proofs.Running.{lawful-items}
use Rattle.unit_answers.proofs.batch.answer_batch.Goals as goal

pub run_batch-requires-clause-named : goal.run_batch-requires-clause-named
run_batch-requires-clause-named g c κs within =
    let d = c.args.design.now in
    let setup : Setup = setup_of d c.args.sizes in
    let queries = asked-by d c.args.items.now c.in_ok-verdicts.verdicts.items c.deref.result.now c.in_ok-queries.queries.items c.deref-2.result.now c.in_ok-verdicts.ensures c.deref.ensures.value c.in_ok-queries.ensures c.deref-2.ensures.value in
    record { batch = refl; opens = refl; lawful = subst (λ (qs : List Query). IsLawful (asks setup qs)) (sym queries) (lawful-items setup c.args.items.now c.facts.ensures c.requires.stores.sized c.requires.lines) }

pub run_batch-requires-clause-few : goal.run_batch-requires-clause-few
run_batch-requires-clause-few g c κs within =
    let d = c.args.design.now in
    let queries = asked-by d c.args.items.now c.in_ok-verdicts.verdicts.items c.deref.result.now c.in_ok-queries.queries.items c.deref-2.result.now c.in_ok-verdicts.ensures c.deref.ensures.value c.in_ok-queries.ensures c.deref-2.ensures.value in
    subst (λ (qs : List Query). length (flat_map pieces qs) ≤ 256) (sym queries) (batch-few d c.args.items.now c.requires.within)

pub place_replies-requires : goal.place_replies-requires
place_replies-requires g c =
    let d = c.args.design.now in
    let setup : Setup = setup_of d c.args.sizes in
    let ran : HasRun (asks setup c.deref-2.result.now) (cells_of c.args.stores.items) c.in_ok-ran.ran.outcomes.items c.in_ok-ran.ran.lists.items c.in_ok-ran.ran.stores.items = c.in_ok-ran.ensures.run in
    outcomes-asked d.circuit c.in_ok-verdicts.verdicts.items c.deref.result.now c.deref-3.result.now c.in_ok-queries.queries.items c.deref-2.result.now c.in_ok-ran.ran.outcomes.items
    c.deref.ensures.value c.in_ok-queries.ensures c.deref-2.ensures.value c.deref-3.ensures.value ran.outcomes_are

pub returns-clause-done : goal.returns-clause-done
returns-clause-done g c =
    let d = c.args.design.now in
    let setup : Setup = setup_of d c.args.sizes in
    let queries = asked-by d c.args.items.now c.in_ok-verdicts.verdicts.items c.deref.result.now c.in_ok-queries.queries.items c.deref-2.result.now c.in_ok-verdicts.ensures c.deref.ensures.value c.in_ok-queries.ensures c.deref-2.ensures.value in
    let os = c.in_ok-ran.ran.outcomes.items in
    let ran : HasRun (asks setup (queries_of d c.args.items.now)) (cells_of c.args.stores.items) os c.in_ok-ran.ran.lists.items c.in_ok-ran.ran.stores.items =
    subst (λ (qs : List Query). HasRun (asks setup qs) (cells_of c.args.stores.items) os c.in_ok-ran.ran.lists.items c.in_ok-ran.ran.stores.items) queries c.in_ok-ran.ensures.run in
    let placed : c.in_ok-replies.replies.items ≡ places.placed_replies (map (verdict_of d) c.args.items.now) os =
    subst (λ (vs : List (Option Verdict)). c.in_ok-replies.replies.items ≡ places.placed_replies vs os) c.in_ok-verdicts.ensures
    (subst (λ (vs : List (Option Verdict)). c.in_ok-replies.replies.items ≡ places.placed_replies vs os) c.deref-3.ensures.value c.in_ok-replies.ensures) in
    batch-done setup c.args.items.now c.args.stores.items os c.in_ok-ran.ran.lists.items c.in_ok-ran.ran.stores.items ran c.requires.stores.sized c.in_ok-replies.replies.items placed

pub returns-clause-crewed : goal.returns-clause-crewed
returns-clause-crewed g c =
    let d = c.args.design.now in
    let queries = asked-by d c.args.items.now c.in_ok-verdicts.verdicts.items c.deref.result.now c.in_ok-queries.queries.items c.deref-2.result.now c.in_ok-verdicts.ensures c.deref.ensures.value c.in_ok-queries.ensures c.deref-2.ensures.value in
    subst (λ (qs : List Query). HasCrewed (flat_map pieces qs) (g.C.Crew.is_open c.args.crew.now) c.in_ok-ran.ran.lists.items) queries c.in_ok-ran.ensures.crewed
