-- Worked examples of SipHash-2-4 with the key 0: of no bytes as published, and of the bytes 0 to 7 and 0 to 14 by a program that gives the
-- hash of the paper's example with the paper's key.
use Rattle.std.proofs.Common.{◌≡◌, refl, [], ◌∷◌}
use Rattle.bench_reader.specs.inner.Sip.{sip_hash}

of-nothing : sip_hash [] ≡ 0x1e924b9d737700d7
unfolding sip_hash
of-nothing = refl

of-a-word : sip_hash (0 ∷ 1 ∷ 2 ∷ 3 ∷ 4 ∷ 5 ∷ 6 ∷ 7 ∷ []) ≡ 0xc72b1c24fc2f7938
unfolding sip_hash
of-a-word = refl

of-fifteen-bytes : sip_hash (0 ∷ 1 ∷ 2 ∷ 3 ∷ 4 ∷ 5 ∷ 6 ∷ 7 ∷ 8 ∷ 9 ∷ 10 ∷ 11 ∷ 12 ∷ 13 ∷ 14 ∷ []) ≡ 0xd0567cd44e891363
unfolding sip_hash
of-fifteen-bytes = refl
