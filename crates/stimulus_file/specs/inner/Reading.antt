-- What the reader knows between two lines.
use Rattle.std.specs.Prelude.{◌≡◌, ℕ, List, Result, is_none, is_some, option_to_list}
use Rattle.std.specs.List.{list_all, list_any, flat_map}
use Rattle.texts.specs.declared.line_faults.causes.LineFault.{LineFault}
use Rattle.texts.specs.line_faults.Reading.{TakesLine}
use Rattle.stimulus_file.specs.declared.StimulusCause.{StimulusCause}
use Rattle.stimulus_file.specs.declared.StimulusCause.TheVariants.{OutOfMemory}
use Rattle.stimulus_file.specs.declared.form.Form.{Form}
use Rattle.stimulus_file.specs.declared.form.Form.TheVariants as forms
use Rattle.stimulus_file.specs.declared.reader.StimulusReader.{StimulusReader}
use Rattle.stimulus_file.specs.Forms.{Line, Blank, Other, Horizon, Setting}
use Rattle.stimulus_file.specs.Stimulus.{is_blank, is_horizon, cause_of, stated_horizon, rows_of}
use Rattle.stimulus_file.specs.Named.{named_rows}
use Rattle.stimulus_file.specs.inner.KeptSettings.{HasNames, HasSeen}

-- a form that was read, without where its name lies in memory
abbrev pub line_seen : Form → Line
line_seen forms.Blank = Blank
line_seen forms.Other = Other
line_seen (forms.Horizon h) = Horizon h
line_seen (forms.Setting name time value) = Setting name.now time value

-- the reader has read these lines, none of which is at fault
pub record HasRead (before : List Line) (r : StimulusReader) : Type 0 where
  pub horizon : flat_map stated_horizon before ≡ option_to_list r.horizon
  pub blank : list_all is_blank before ≡ is_none r.horizon
  pub horizon_line : list_any is_horizon before ≡ is_some r.horizon
  pub rows : named_rows r.names.texts.items r.sets.items ≡ rows_of before
  pub names : HasNames r.names r.sets.items
  pub seen : HasSeen r.seen r.sets.items

-- what the reader answers to a line
abbrev pub Reads : StimulusReader → StimulusReader → ℕ → Line → Result (Unit {0}) (LineFault StimulusCause) → Type 0
Reads old new number line answer = TakesLine OutOfMemory cause_of HasRead old new number line answer
