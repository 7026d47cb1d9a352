use Rattle.std.proofs.Common.{◌+◌, sym, ◌∙◌, arith}
use Rattle.texts.proofs.NameEnds.{AreNames, name_goes_on, counted}
use Rattle.texts.proofs.byte.name_len.Goals as goal

pub returns-then-not-is_name_byte-clause-count : goal.returns-then-not-is_name_byte-clause-count
returns-then-not-is_name_byte-clause-count c = counted c.args.bytes.now c.loop-len.len c.loop-len.invariant (λ lt. sym c.is_name_byte.ensures ∙ c.if-not-is_name_byte.true)

pub returns-then-not-is_name_byte-2-clause-count : goal.returns-then-not-is_name_byte-2-clause-count
returns-then-not-is_name_byte-2-clause-count c =
    let one : AreNames c.args.bytes.now (c.loop-len.len + 1) = name_goes_on c.args.bytes.now c.loop-len.len _ (omega arith) c.loop-len.invariant (omega arith) (sym c.is_name_byte.ensures ∙ c.if-not-is_name_byte.false) in
    counted c.args.bytes.now _ one (λ lt. sym c.is_name_byte-in-loop-len.ensures ∙ c.if-not-is_name_byte-2.true)

pub returns-then-not-is_name_byte-3-clause-count : goal.returns-then-not-is_name_byte-3-clause-count
returns-then-not-is_name_byte-3-clause-count c =
    let one : AreNames c.args.bytes.now (c.loop-len.len + 1) = name_goes_on c.args.bytes.now c.loop-len.len _ (omega arith) c.loop-len.invariant (omega arith) (sym c.is_name_byte.ensures ∙ c.if-not-is_name_byte.false) in
    let two : AreNames c.args.bytes.now (c.loop-len.len + 2) = name_goes_on c.args.bytes.now _ _ (omega arith) one (omega arith) (sym c.is_name_byte-in-loop-len.ensures ∙ c.if-not-is_name_byte-2.false) in
    counted c.args.bytes.now _ two (λ lt. sym c.is_name_byte-in-loop-len-2.ensures ∙ c.if-not-is_name_byte-3.true)

pub returns-then-not-is_name_byte-4-clause-count : goal.returns-then-not-is_name_byte-4-clause-count
returns-then-not-is_name_byte-4-clause-count c =
    let one : AreNames c.args.bytes.now (c.loop-len.len + 1) = name_goes_on c.args.bytes.now c.loop-len.len _ (omega arith) c.loop-len.invariant (omega arith) (sym c.is_name_byte.ensures ∙ c.if-not-is_name_byte.false) in
    let two : AreNames c.args.bytes.now (c.loop-len.len + 2) = name_goes_on c.args.bytes.now _ _ (omega arith) one (omega arith) (sym c.is_name_byte-in-loop-len.ensures ∙ c.if-not-is_name_byte-2.false) in
    let three : AreNames c.args.bytes.now (c.loop-len.len + 3) = name_goes_on c.args.bytes.now _ _ (omega arith) two (omega arith) (sym c.is_name_byte-in-loop-len-2.ensures ∙ c.if-not-is_name_byte-3.false) in
    counted c.args.bytes.now _ three (λ lt. sym c.is_name_byte-in-loop-len-3.ensures ∙ c.if-not-is_name_byte-4.true)

pub loop-len-preserved : goal.loop-len-preserved
loop-len-preserved c =
    let one : AreNames c.args.bytes.now (c.loop-len.len + 1) = name_goes_on c.args.bytes.now c.loop-len.len _ (omega arith) c.loop-len.invariant (omega arith) (sym c.is_name_byte.ensures ∙ c.if-not-is_name_byte.false) in
    let two : AreNames c.args.bytes.now (c.loop-len.len + 2) = name_goes_on c.args.bytes.now _ _ (omega arith) one (omega arith) (sym c.is_name_byte-in-loop-len.ensures ∙ c.if-not-is_name_byte-2.false) in
    let three : AreNames c.args.bytes.now (c.loop-len.len + 3) = name_goes_on c.args.bytes.now _ _ (omega arith) two (omega arith) (sym c.is_name_byte-in-loop-len-2.ensures ∙ c.if-not-is_name_byte-3.false) in
    name_goes_on c.args.bytes.now _ _ (omega arith) three (omega arith) (sym c.is_name_byte-in-loop-len-3.ensures ∙ c.if-not-is_name_byte-4.false)

pub returns-else-is_name_byte-clause-count : goal.returns-else-is_name_byte-clause-count
returns-else-is_name_byte-clause-count c = counted c.args.bytes.now c.loop-len-2.len c.loop-len-2.invariant (λ lt. sym c.is_name_byte-in-loop-len-2-2.ensures ∙ c.if-is_name_byte.false)

pub returns-after-loop-len-2-clause-count : goal.returns-after-loop-len-2-clause-count
returns-after-loop-len-2-clause-count c = counted c.args.bytes.now c.loop-len-2.len c.loop-len-2.invariant (λ lt. absurd (omega arith))
