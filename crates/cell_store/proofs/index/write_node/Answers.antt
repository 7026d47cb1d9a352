use Rattle.cell_store.proofs.Nodes.{written_held, written_link}
use Rattle.cell_store.proofs.index.write_node.Goals as goal

pub returns-clause-held : goal.returns-clause-held
returns-clause-held c = written_held c.args.nodes.now.items c.args.i c.args.node c.requires

pub returns-clause-link : goal.returns-clause-link
returns-clause-link c = written_link c.args.nodes.now.items c.args.i c.args.node c.requires
