-- What a line speaks of. No two lines of a file have the same subject.
use Rattle.std.specs.Prelude.{ℕ, Bool, true, false, ◌&&◌, ◌==◌, List}
use Rattle.std.specs.Str.{bytes_eq}
use Rattle.gate_values.specs.declared.Kind.{Kind}
use Rattle.gate_values.specs.declared.Kind.TheVariants.{And, Nand, Or, Nor, Xor, Xnor, Not, Buff, Dff}
use Rattle.timing_file.specs.Forms.{Statement}
use Rattle.timing_file.specs.Forms as statements

pub data Subject : Type 0 where
  CommonClock : Subject
  NamedClock : (name : List ℕ) → Subject
  Default : Subject
  DefaultOf : (kind : Kind) → Subject
  DelayOf : (name : List ℕ) → Subject
  InitOf : (name : List ℕ) → Subject
  PinOf : (name : List ℕ) (place : ℕ) → Subject
  ClockOf : (flop : List ℕ) → Subject

abbrev pub subject_of : Statement → Subject
subject_of (statements.CommonClock clock) = CommonClock
subject_of (statements.NamedClock name clock) = NamedClock name
subject_of (statements.Default delay) = Default
subject_of (statements.DefaultOf kind delay) = DefaultOf kind
subject_of (statements.DelayOf name delay) = DelayOf name
subject_of (statements.InitOf name value) = InitOf name
subject_of (statements.PinOf name place delay) = PinOf name place
subject_of (statements.ClockedBy flop clock) = ClockOf flop

abbrev pub same_kind : Kind → Kind → Bool
same_kind And And = true
same_kind Nand Nand = true
same_kind Or Or = true
same_kind Nor Nor = true
same_kind Xor Xor = true
same_kind Xnor Xnor = true
same_kind Not Not = true
same_kind Buff Buff = true
same_kind Dff Dff = true
same_kind _ _ = false

abbrev pub same_subject : Subject → Subject → Bool
same_subject CommonClock CommonClock = true
same_subject (NamedClock n) (NamedClock m) = bytes_eq n m
same_subject Default Default = true
same_subject (DefaultOf k) (DefaultOf l) = same_kind k l
same_subject (DelayOf n) (DelayOf m) = bytes_eq n m
same_subject (InitOf n) (InitOf m) = bytes_eq n m
same_subject (PinOf n k) (PinOf m l) = bytes_eq n m && k == l
same_subject (ClockOf n) (ClockOf m) = bytes_eq n m
same_subject _ _ = false
