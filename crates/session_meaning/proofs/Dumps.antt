-- What a line that asks for a dump writes.
use Rattle.std.proofs.Common.{◌≡◌, ℕ, ◌<◌, Bool, true, false, cond, nat_lt, List, [], ◌∷◌, ◌++◌, length, Option, Some, None, refl, sym, ap, append-nil, length-append, arith}
use Rattle.std.specs.Prelude.{codes}
use Rattle.std.specs.Fmt.{decimal}
use Rattle.texts.specs.Made.{Made}
use Rattle.reply_lines.specs.declared.reply.VcdReply.{VcdReply}
use Rattle.reply_lines.specs.declared.reply.VcdReply.TheVariants as dumps
use Rattle.reply_lines.specs.Replies.{text_line, vcd_line}
use Rattle.vcd_answers.specs.Wires.{Wire}
use Rattle.session_meaning.specs.Session.{Setup, Course, is_taken, with_reply, with_dump, with_last, with_vcd}
use Rattle.session_meaning.specs.Broken.{IsPrefix, journal_of, AreBegun}
use Rattle.session_meaning.specs.Written.{journal_text}

-- ---- what the line writes

-- a line has at least a byte, its end
pub line-some : (words : List (List ℕ)) → 0 < length (text_line words)
line-some [] = omega arith
line-some (word ∷ []) = omega (arith, length-append word (10 ∷ []))
line-some (word ∷ next ∷ words) = omega (arith, length-append word (32 ∷ text_line (next ∷ words)))

-- so has each reply to a line that asks for a dump
pub vcd-some : (file : List ℕ) (reply : VcdReply) → 0 < length (vcd_line file reply)
vcd-some file dumps.Taken = line-some (codes "vcd" ∷ codes "taken" ∷ file ∷ [])
vcd-some file dumps.NoBatch = line-some (codes "vcd" ∷ codes "none" ∷ [])
vcd-some file dumps.Full = line-some (codes "vcd" ∷ codes "full" ∷ [])
vcd-some file (dumps.Made wires) = line-some (codes "vcd" ∷ file ∷ codes "wires" ∷ decimal wires ∷ [])

-- such a line replies, and no section comes with it
pub record IsVcdLine (file : List ℕ) (now next : Course) : Type 0 where
  pub reply : VcdReply
  pub out_is : next.out ≡ now.out ++ vcd_line file reply
  pub sections_are : next.sections ≡ now.sections

module _ (now : Course) (file : List ℕ) where
  vcd-with-reply : (reply : VcdReply) → IsVcdLine file now (with_reply now (vcd_line file reply))
  vcd-with-reply reply = record { reply = reply; out_is = refl; sections_are = refl }

  vcd-with-room : (wires : List Wire) (room : Bool) → IsVcdLine file now (cond room (with_dump now file wires) (with_reply now (vcd_line file dumps.Full)))
  vcd-with-room wires true = record { reply = dumps.Made (length wires); out_is = refl; sections_are = refl }
  vcd-with-room wires false = vcd-with-reply dumps.Full

  vcd-with-last : (waves : Option (List Wire)) → IsVcdLine file now (with_last now file waves)
  vcd-with-last None = vcd-with-reply dumps.NoBatch
  vcd-with-last (Some wires) = vcd-with-room wires (nat_lt (length now.dumps) 3)

  vcd-with-name : (taken : Bool) → IsVcdLine file now (cond taken (with_reply now (vcd_line file dumps.Taken)) (with_last now file now.waves))
  vcd-with-name true = vcd-with-reply dumps.Taken
  vcd-with-name false = vcd-with-last now.waves

-- so it is of every line that asks for a dump
pub vcd-replies : (setup : Setup) (now : Course) (file : List ℕ) → IsVcdLine file now (with_vcd setup now file)
vcd-replies setup now file = vcd-with-name now file (is_taken setup now file)

-- the sections stay as they are
pub vcd-sections : (setup : Setup) (now : Course) (file : List ℕ) → (with_vcd setup now file).sections ≡ now.sections
vcd-sections setup now file = (vcd-replies setup now file).sections_are

-- so does the journal
pub vcd-journal : (setup : Setup) (now : Course) (file : List ℕ) → journal_of setup (with_vcd setup now file) ≡ journal_of setup now
vcd-journal setup now file = ap (journal_text setup.shards setup.capacity) (vcd-sections setup now file)

-- the replies get longer
pub vcd-longer : (setup : Setup) (now : Course) (file : List ℕ) → length now.out < length (with_vcd setup now file).out
vcd-longer setup now file =
    let is = vcd-replies setup now file in
    omega (arith, ap length is.out_is, length-append now.out (vcd_line file is.reply), vcd-some file is.reply)

-- ---- beginnings of files

-- all files stand whole
pub begun-same : (files : List Made) → AreBegun files files
begun-same [] = tt
begun-same (file ∷ []) = (refl, ([], sym (append-nil file.bytes)))
begun-same (file ∷ next ∷ files) = (refl, begun-same (next ∷ files))

-- of one file more a part stands
pub begun-one : (files : List Made) (name part whole : List ℕ) → IsPrefix part whole
    → AreBegun (files ++ record { name = name; bytes = part } ∷ []) (files ++ record { name = name; bytes = whole } ∷ [])
begun-one [] name part whole is = (refl, is)
begun-one (file ∷ []) name part whole is = (refl, begun-one [] name part whole is)
begun-one (file ∷ next ∷ files) name part whole is = (refl, begun-one (next ∷ files) name part whole is)

-- of further files nothing stands
pub begun-less : (files more : List Made) → AreBegun files (files ++ more)
begun-less [] more = tt
begun-less (file ∷ []) more = (refl, ([], sym (append-nil file.bytes)))
begun-less (file ∷ next ∷ files) more = (refl, begun-less (next ∷ files) more)
