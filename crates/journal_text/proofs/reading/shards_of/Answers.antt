use Rattle.std.proofs.Common.{rules, ◌≡◌, ◌-◌, ◌+◌, suc, ◌++◌, ◌∷◌, [], List, None, Some, ◌∙◌, ap, sym, arith}
use Rattle.std.specs.Prelude.{codes}
use Rattle.journal_meaning.specs.declared.Entry.{Entry}
use Rattle.texts.specs.fields.Reading.{after_word}
use Rattle.journal_text.specs.inner.Reading.{shard_at, shards_at}
use Rattle.journal_text.proofs.Shards.{shard_read, put_shards, put_shard, put_none, put_end, put_most}
use Rattle.journal_text.proofs.reading.shards_of.Goals.{else-loop-number-test, then-loop-number-test+in_default}
use Rattle.journal_text.proofs.reading.shards_of.Goals as goal

-- the shard's line is not its own
pub returns-in_default-2 : goal.returns-in_default-2
returns-in_default-2 c =
    let word : after_word (codes "shard") c.loop-number.rest.now ≡ Some c.in-Some.line.now = search rules in
    let none : shard_at c.loop-number.number c.in-Some.line.now ≡ None = search rules in
    let left : c.args.most - c.loop-number.number ≡ suc (c.args.most - (c.loop-number.number + 1)) = omega (arith, c.loop-number-test.true) in
    sym (put_none _ (c.args.most - (c.loop-number.number + 1)) c.loop-number.number c.loop-number.shards.items c.loop-number.rest.now c.in-Some.line.now left word none) ∙ c.loop-number.invariant

pub loop-number-preserved : goal.loop-number-preserved
loop-number-preserved c =
    let word : after_word (codes "shard") c.loop-number.rest.now ≡ Some c.in-Some.line.now = search rules in
    let shard : shard_at c.loop-number.number c.in-Some.line.now ≡ shard_read c.in-Some-2.entries c.in-Some-2.more.now = search rules in
    let left : c.args.most - c.loop-number.number ≡ suc (c.args.most - (c.loop-number.number + 1)) = omega (arith, c.loop-number-test.true) in
    let pushed : c.push.new.self.items ≡ c.loop-number.shards.items ++ c.in-Some-2.entries ∷ [] = search rules in
    ap (λ (l : List (List Entry)). put_shards l (shards_at (c.args.most - (c.loop-number.number + 1)) (c.loop-number.number + 1) c.in-Some-2.more.now)) pushed
    ∙ put_shard _ (c.args.most - (c.loop-number.number + 1)) c.loop-number.number c.loop-number.shards.items c.loop-number.rest.now c.in-Some.line.now c.in-Some-2.entries c.in-Some-2.more.now left word shard
    ∙ c.loop-number.invariant

pub returns : goal.returns
returns c =
    let all : put_shards c.loop-number.shards.items (shards_at (c.args.most - c.loop-number.number) c.loop-number.number c.loop-number.rest.now) ≡ Some (c.loop-number.shards.items, c.loop-number.rest.now) =
    elim c.loop-number-test.branch [
      | else-loop-number-test w ↦ put_most _ c.loop-number.number c.loop-number.shards.items c.loop-number.rest.now (omega (arith, w.loop-number-test.false))
      | then-loop-number-test+in_default w ↦
          let word : after_word (codes "shard") c.loop-number.rest.now ≡ None = search rules in
          put_end _ c.loop-number.number c.loop-number.shards.items c.loop-number.rest.now word
    ] in
    ap (λ (l : List (List Entry)). Some (l, c.loop-number.rest.now)) c.from_vec.ensures ∙ sym all ∙ c.loop-number.invariant
