-- What was read, without where its names lie in memory.
use Rattle.std.specs.Prelude.{Bool, Option, Some, None}
use Rattle.timing_file.specs.declared.statement.Statement as declared_statement
use Rattle.timing_file.specs.declared.statement.Statement.TheVariants as statements
use Rattle.timing_file.specs.declared.statement.Subject as declared_subject
use Rattle.timing_file.specs.declared.statement.Subject.TheVariants as keys
use Rattle.timing_file.specs.declared.form.Form.{Form}
use Rattle.timing_file.specs.declared.form.Form.TheVariants as forms
use Rattle.timing_file.specs.Forms.{Statement, CommonClock, NamedClock, Default, DefaultOf, DelayOf, InitOf, PinOf, ClockedBy, Line, Blank, Other, Version, Plain, Versioned}
use Rattle.timing_file.specs.Subjects.{Subject, same_subject}
use Rattle.timing_file.specs.Subjects as subjects

abbrev pub statement_seen : declared_statement.Statement → Statement
statement_seen (statements.CommonClock clock) = CommonClock clock
statement_seen (statements.NamedClock name clock) = NamedClock name.now clock
statement_seen (statements.Default delay) = Default delay
statement_seen (statements.DefaultOf kind delay) = DefaultOf kind delay
statement_seen (statements.DelayOf name delay) = DelayOf name.now delay
statement_seen (statements.InitOf name value) = InitOf name.now value
statement_seen (statements.PinOf name place delay) = PinOf name.now place delay
statement_seen (statements.ClockedBy flop clock) = ClockedBy flop.now clock.now

abbrev pub subject_seen : declared_subject.Subject → Subject
subject_seen keys.CommonClock = subjects.CommonClock
subject_seen (keys.NamedClock name) = subjects.NamedClock name.now
subject_seen keys.Default = subjects.Default
subject_seen (keys.DefaultOf kind) = subjects.DefaultOf kind
subject_seen (keys.DelayOf name) = subjects.DelayOf name.now
subject_seen (keys.InitOf name) = subjects.InitOf name.now
subject_seen (keys.PinOf name place) = subjects.PinOf name.now place
subject_seen (keys.ClockOf flop) = subjects.ClockOf flop.now

abbrev pub stated_seen : Option declared_statement.Statement → Option Statement
stated_seen None = None
stated_seen (Some statement) = Some (statement_seen statement)

abbrev pub line_seen : Form → Line
line_seen forms.Blank = Blank
line_seen forms.Other = Other
line_seen forms.Version = Version
line_seen (forms.Plain statement) = Plain (stated_seen statement)
line_seen (forms.Versioned statement) = Versioned (stated_seen statement)

-- two keys of one subject
abbrev pub is_alike : declared_subject.Subject → declared_subject.Subject → Bool
is_alike a b = same_subject (subject_seen a) (subject_seen b)
