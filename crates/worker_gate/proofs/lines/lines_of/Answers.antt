use Rattle.std.proofs.Common.{◌≡◌, ◌+◌, ◌<◌, ◌/◌, ◌%◌, min, map, length, get_or, Ok, IfOk, ap, subst, ◌∙◌, arith, rules}
use Rattle.std.specs.Prelude.{flat_map}
use Rattle.std.proofs.lemmas.List.{length-map, get_or-map}
use Rattle.std.proofs.lemmas.Result.{IfOk-weaker}
use Rattle.journal_text.specs.Spelling.{entry_line}
use Rattle.worker_gate.proofs.Joined.{chunks-cover, chunks-joined}
use Rattle.worker_gate.proofs.lines.lines_of.Goals as goal

pub returns : goal.returns
returns g c =
    let entries = c.args.entries.now in
    let size = c.max-size.result in
    let parts = c.in_ok-parts.parts.items in
    let some : 0 < size = search rules in
    IfOk-weaker c.all_texts.result (λ texts. parts ≡ map (λ text. Ok text) texts.items) _ (λ texts are.
    let many : length parts ≡ length texts.items = ap length are ∙ length-map texts.items (λ text. Ok text) in
    let count : length texts.items ≡ length entries / size + min 1 (length entries % size) = omega (arith, many, c.in_ok-parts.ensures.len, c.in_ok-parts.parts.ok.0) in
    chunks-joined entry_line (λ text. text.items) size texts.items entries (λ n d low.
    let call = (c.in_ok-parts.ensures.each n (Ok d) (omega (arith, low, many, c.in_ok-parts.parts.ok.0))).1 in
    let one : get_or parts n (Ok d) ≡ Ok (get_or texts.items n d) = ap (λ l. get_or l n (Ok d)) are ∙ get_or-map (λ text. Ok text) texts.items n d (Ok d) low in
    let made : IfOk (get_or parts n (Ok d)) (λ text. text.items ≡ flat_map entry_line call.argument.now) = let posted = call.call in search rules in
    subst (λ r. IfOk r (λ text. text.items ≡ flat_map entry_line call.argument.now)) one made ∙ ap (flat_map entry_line) call.argument_is.value) (chunks-cover (length texts.items) (length entries) size some count)) c.all_texts.ensures
