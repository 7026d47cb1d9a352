-- Every session keeps its promises, and that of a script is whole.
use Rattle.std.proofs.lemmas.List.Elements.{All-weaker}
use Rattle.query_lines.specs.Fit.{HasOwnLines, IsFit, ScriptUnitsAreFit}
use Rattle.query_lines.specs.Reading.{script_units}
use Rattle.session_meaning.specs.Laws.{SessionsKeepPromises, SessionsAreWhole}
use Rattle.session_meaning.proofs.Enough.{session-ample}
use Rattle.session_meaning.proofs.Shown.{own-waves}
use Rattle.session_meaning.proofs.Again.{sessions-frugal}
use Rattle.session_meaning.proofs.Accepted.{explanations-accepted}
use Rattle.session_meaning.proofs.OneJournal.{one-journal}

pub sessions-keep : SessionsKeepPromises
sessions-keep setup design units fit course session = record {
  ample = session-ample setup design.circuit units course (All-weaker (IsFit setup.design.circuit.horizon) HasOwnLines (λ unit is. is.own) units fit) session;
  shown = own-waves setup design.limits.horizon units fit course session;
  frugal = sessions-frugal setup design.circuit units course session;
  accepted = explanations-accepted setup design units fit course session;
}

pub sessions-whole : ScriptUnitsAreFit → SessionsAreWhole
sessions-whole fit setup design script out journal dumps is = record {
  session = is;
  keeps = sessions-keep setup design (script_units setup.design.circuit.horizon script) (fit setup.design.circuit.horizon script design.limits.horizon) is.course is.served;
  one = λ memo short. one-journal fit setup design memo script out journal dumps short is;
}
