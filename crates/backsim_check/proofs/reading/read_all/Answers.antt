use Rattle.std.proofs.Common.{rules, ℕ, ◌<◌, List, Vec, Global, Option, Err, length, ap, subst, ◌∙◌}
use Rattle.std.specs.Prelude.{IfSome}
use Rattle.std.proofs.lemmas.Result.{err_from_is_err_and}
use Rattle.circuit_files.proofs.Callers.{held-same}
use Rattle.backsim_check.proofs.Read.{design-stops, proof-stops, proof-refused, first-refused, third-refused, fourth-refused, files-right, proof-right}
use Rattle.backsim_check.proofs.reading.read_all.Goals as goal

pub returns-in_err-design-clause-reads : goal.returns-in_err-design-clause-reads
returns-in_err-design-clause-reads g c =
    let p = err_from_is_err_and c.from_residual.result c.from_residual.ensures.1 in
    let e = c.in_err-design.ensures in
    rw (p.1, p.2) (record {
      design = λ given are. tt;
      text = λ proof held. tt;
      short = tt;
      right = λ given proof are. files-right given proof _ (e.design given.netlist given.timing given.stimulus are.circuit.netlist are.circuit.timing are.circuit.stimulus);
      refused = record {
        netlist = λ refusal x held is. first-refused 1 _ _ _ _ refusal is (e.first x held) e.state;
        timing = λ refusal x y held_x held_y is. first-refused 2 _ _ _ _ refusal is (e.second x y held_x held_y) e.state;
        circuit = λ refusal given are is. third-refused _ _ _ _ refusal is (e.design given.netlist given.timing given.stimulus are.netlist are.timing are.stimulus) e.state;
        proof = λ d given text are is long. fourth-refused _ _ _ _ d is (e.design given.netlist given.timing given.stimulus are.circuit.netlist are.circuit.timing are.circuit.stimulus) e.state;
      };
      changes = design-stops _ _ _ e.state;
    })

-- the three files made a design
pub returns-in_err-text-clause-reads : goal.returns-in_err-text-clause-reads
returns-in_err-text-clause-reads g c =
    let p = err_from_is_err_and c.from_residual-in_err-text.result c.from_residual-in_err-text.ensures.1 in
    let old = g.F.Files.state c.args.files.now in
    let mid = g.F.Files.state c.read_design.new.files in
    let e = c.in_ok-design.ensures in
    let stops = proof-stops (Vec ℕ Global) old mid _ _ e.state c.in_err-text.ensures.state in
    rw (p.1, p.2) (record {
      design = λ given are. tt;
      text = λ proof held. tt;
      short = tt;
      right = λ given proof are. proof-right given proof c.in_ok-design.design _ (e.design given.netlist given.timing given.stimulus are.circuit.netlist are.circuit.timing are.circuit.stimulus)
          (λ is. subst (λ (o : Option (List ℕ)). IfSome o (λ xs. 268435456 < length xs)) (held-same 3 old mid e.state c.args.proof.now ∙ are.proof_is) (c.in_err-text.ensures.too_long_by (ap Err is)));
      refused = record { netlist = search rules; timing = search rules; circuit = search rules; proof = λ d given text are is long. proof-refused _ _ _ stops };
      changes = stops;
    })
