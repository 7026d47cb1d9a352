use Rattle.std.proofs.Common.{refl, rules}
use Rattle.std.proofs.lemmas.Grind.{common_steps}
use Rattle.session_loop.proofs.Growing.{handed-replies-behind, part-none}
use Rattle.session_loop.proofs.section.push_reply.Goals as goal

-- the reply has no text
pub returns-in_err-more : goal.returns-in_err-more
returns-in_err-more g c = handed-replies-behind _ _ _ c.from_residual.result c.from_residual.ensures.1 (record { begun = part-none (g.S.Sink.written c.args.out.now) _; state = refl })

pub returns-in_err-extend_from_slice : goal.returns-in_err-extend_from_slice
returns-in_err-extend_from_slice g c =
    handed-replies-behind _ _ _ c.from_residual-in_err-extend_from_slice.result c.from_residual-in_err-extend_from_slice.ensures.1 (record { begun = part-none (g.S.Sink.written c.args.out.now) _; state = refl })

-- it is kept back
pub returns-then-len-lt-PIECE : goal.returns-then-len-lt-PIECE
returns-then-len-lt-PIECE g c = record { keeps_back = search (rules, common_steps); state = refl }

-- a part of it was written, or all
pub returns-in_err-write_reply : goal.returns-in_err-write_reply
returns-in_err-write_reply g c =
    handed-replies-behind _ _ _ c.from_residual-in_err-write_reply.result c.from_residual-in_err-write_reply.ensures.1 (record { begun = search (rules, common_steps); state = c.in_err-write_reply.ensures.state })

pub returns : goal.returns
returns g c = record { keeps_back = search (rules, common_steps); state = c.in_ok-write_reply.ensures.state }
