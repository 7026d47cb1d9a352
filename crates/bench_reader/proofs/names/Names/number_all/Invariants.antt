use Rattle.std.proofs.Common.{◌≡◌, ◌≤◌, ◌+◌, length, map, take}
use Rattle.std.specs.Str.{bytes_eq}
use Rattle.indexmap.specs.IndexSet.{insert_all}
use Rattle.bench_reader.proofs.Keys.{Adds}
use Rattle.bench_reader.proofs.names.Names.number_all.Given as goal

abbrev pub invariant-loop-name : goal.invariant-loop-name
invariant-loop-name l = record {
  keys : l.self ≡ insert_all bytes_eq l.fn.self (map (λ p. p.now) (take l.name-index l.listed));
  numbers : Adds l.self l.fn.numbers.items l.numbers.items (map (λ p. p.now) (take l.name-index l.listed));
  grows : length l.fn.self ≤ length l.self;
  room : length l.self ≤ length l.fn.self + l.name-index;
}
