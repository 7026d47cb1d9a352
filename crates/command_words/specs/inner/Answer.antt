-- Definitions for proofs and private functions, beside `Answer`.
use Rattle.std.specs.Prelude.{[], codes, option_map, unwrap_or}
use Rattle.clap.specs.Words.{first_value, matched_of, raw_values}
use Rattle.clap.specs.declared.parser.matches.Found.{Found}
use Rattle.command_words.specs.Words.{Said}

-- the options and the names in the matches
abbrev pub said_in : Found → Said
said_in found = record {
  workers = first_value found (codes "workers");
  shards = first_value found (codes "shards");
  cells = first_value found (codes "cells");
  work = first_value found (codes "work");
  names = unwrap_or (option_map raw_values (matched_of found (codes "names"))) [];
}
