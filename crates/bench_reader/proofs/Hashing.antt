-- The hash of the bytes, once all whole words are in.
use Rattle.std.proofs.Common.{◌≡◌, ℕ, ◌*◌, ◌/◌, ◌≤◌, List, length, drop, sym, ap, ◌∙◌}
use Rattle.std.specs.List.{fold}
use Rattle.std.specs.Simd.{first_chunks}
use Rattle.std.proofs.lemmas.List.{drop_all}
use Rattle.bench_reader.specs.declared.sip.State.{State}
use Rattle.bench_reader.specs.inner.Sip.{start, with_word, with_bytes, finish, last_word, sip_hash}

pub hashed : (bytes : List ℕ) (words : List (List ℕ)) (i last : ℕ) (state : State) → words ≡ first_chunks 8 (length bytes / 8) bytes → last ≡ last_word (drop (length bytes / 8 * 8) bytes) (length bytes)
    → fold with_bytes state (drop i words) ≡ fold with_bytes start words → length words ≤ i → finish (with_word state last) ≡ sip_hash bytes
unfolding sip_hash
hashed bytes words i last state words-are last-is folded done =
    let taken : state ≡ fold with_bytes start words = sym (ap (λ (l : List (List ℕ)). fold with_bytes state l) (drop_all i words done)) ∙ folded in
    ap (λ (s : State). finish (with_word s last)) (taken ∙ ap (λ (l : List (List ℕ)). fold with_bytes start l) words-are)
    ∙ ap (λ (w : ℕ). finish (with_word (fold with_bytes start (first_chunks 8 (length bytes / 8) bytes)) w)) last-is
