-- Names in chains, by a strong hash.
use Rattle.std.proofs.Common.{◌≡◌, ℕ, suc, ◌+◌, ◌<◌, Bool, true, false, cond, eqb, List, [], ◌∷◌, ◌++◌, length, get_or, set, Option, Some, None, unwrap_or, refl, sym, ap, ap₂, subst, ◌∙◌, arith, length-append}
use Rattle.std.specs.List.{position}
use Rattle.std.specs.Str.{bytes_eq}
use Rattle.std.specs.Ordering.{nat_cmp}
use Rattle.std.specs.BTreeMap.{BTreeMap, Updates, get, is_at}
use Rattle.std.specs.Map.{lookup}
use Rattle.std.proofs.lemmas.Bool.{eqb-true}
use Rattle.std.proofs.lemmas.Bool.Decides.{nat_tests}
use Rattle.std.proofs.lemmas.List.{length-set, get_or_push}
use Rattle.bench_reader.specs.inner.Chains.{AreDistinct, bucket_at, last_in, BeginsChain}
use Rattle.bench_reader.specs.inner.Keyed.{last_of, IsKeyed, AreKeyed, IsEachKeyed}
use Rattle.bench_reader.specs.inner.Sip.{sip_hash}
use Rattle.bench_reader.proofs.Places.{distinct_insert}
use Rattle.bench_reader.proofs.Chained.{last_in-same, linked-same, linked-link}
use Rattle.bench_reader.proofs.Numbering.{same-buckets, new-key}

at-hash : (key h : ℕ) → is_at (nat_cmp key) h ≡ eqb key h
at-hash key h = grind (arith, nat_tests)

-- after a change at one hash
changed : (old new : BTreeMap ℕ ℕ) (key last h : ℕ) → Updates nat_cmp old new key (Some last) → last_of new h ≡ cond (eqb key h) last (last_of old h)
changed old new key last h u = ap (λ (o : Option ℕ). unwrap_or o 0) (u.0 h) ∙ ap (λ (b : Bool). unwrap_or (cond b (Some last) (get nat_cmp old h)) 0) (at-hash key h) ∙ inside (eqb key h)
  where
    inside : (b : Bool) → unwrap_or (cond b (Some last) (get nat_cmp old h)) 0 ≡ cond b last (last_of old h)
    inside true = refl
    inside false = refl

-- no name yet
pub keyed-none : (hash : ℕ → ℕ) (latest : BTreeMap ℕ ℕ) (earlier : List ℕ) → latest.entries ≡ [] → IsKeyed hash 0 latest earlier
keyed-none hash latest earlier none = record {
  heads = λ h. rw none refl;
  links = λ i lt. absurd (omega arith);
}

-- the entry of a hash, written as it is told
pub keyed-same : (hash : ℕ → ℕ) (n key : ℕ) (old new : BTreeMap ℕ ℕ) (earlier : List ℕ) → IsKeyed hash n old earlier → Updates nat_cmp old new key (Some (last_of old key)) → IsKeyed hash n new earlier
keyed-same hash n key old new earlier k u = record { heads = λ h. changed old new key (last_of old key) h u ∙ same h (eqb key h) refl ∙ k.heads h; links = k.links }
  where
    same : (h : ℕ) (b : Bool) → eqb key h ≡ b → cond b (last_of old key) (last_of old h) ≡ last_of old h
    same h true t = ap (last_of old) (eqb-true key h t)
    same h false t = refl

-- one more name
pub keyed-link : (hash : ℕ → ℕ) (n m key last : ℕ) (old new : BTreeMap ℕ ℕ) (earlier : List ℕ) → m ≡ suc n → IsKeyed hash n old earlier → n < length earlier → hash n ≡ key → last ≡ last_of old key → Updates nat_cmp old new key (Some m) → IsKeyed hash m new (set earlier n last)
keyed-link hash n m key last old new earlier next k room is last-is u = subst (λ (i : ℕ). IsKeyed hash i new (set earlier n last)) (sym next) (record {
  heads = λ h. changed old new key m h u ∙ ap (λ (x : ℕ). cond (eqb key h) m x) (k.heads h) ∙ ap₂ (λ (x y : ℕ). cond (eqb x h) y (last_in hash h n)) (sym is) next;
  links = linked-link hash n last earlier k.links room (last-is ∙ k.heads key ∙ ap (λ (x : ℕ). last_in hash x n) (sym is));
})

-- a map with the same entries
pub keyed-again : (hash : ℕ → ℕ) (n : ℕ) (old new : BTreeMap ℕ ℕ) (earlier : List ℕ) → new.entries ≡ old.entries → IsKeyed hash n old earlier → IsKeyed hash n new earlier
keyed-again hash n old new earlier same k = record { heads = λ h. ap (λ (es : List (ℕ × ℕ)). unwrap_or (lookup (is_at (nat_cmp h)) es) 0) same ∙ k.heads h; links = k.links }

pub keyed-next : (names : List (List ℕ)) (name : List ℕ) (n key told last next : ℕ) (old written new : BTreeMap ℕ ℕ) (earlier : List ℕ) → IsKeyed (bucket_at sip_hash names) n old earlier → n < length earlier → get_or names n [] ≡ name → key ≡ sip_hash name
    → told ≡ last_of old key → last ≡ told → next ≡ suc n → Updates nat_cmp old written key (Some next) → new.entries ≡ written.entries → IsKeyed (bucket_at sip_hash names) (n + 1) new (set earlier n last)
keyed-next names name n key told last next old written new earlier k room at key-is told-is last-is is u same =
    let more : next ≡ n + 1 = omega (arith, is) in
    subst (λ (m : ℕ). IsKeyed (bucket_at sip_hash names) m new (set earlier n last)) more
    (keyed-again (bucket_at sip_hash names) next written new (set earlier n last) same (keyed-link (bucket_at sip_hash names) n next key last old written earlier is k room (ap sip_hash at ∙ sym key-is) (last-is ∙ told-is) u))

-- the chain of a name
pub keyed-begins : (names : List (List ℕ)) (latest : BTreeMap ℕ ℕ) (earlier name : List ℕ) (last : ℕ) → AreKeyed names latest earlier → last ≡ last_of latest (sip_hash name) → BeginsChain names earlier name last
keyed-begins names latest earlier name last k last-is = record { bucket = sip_hash; begins = last-is ∙ k.keyed.heads (sip_hash name); links = k.keyed.links; room = k.room }

-- all names, once the entry of a hash is written as it is told
pub each-same : (names now : List (List ℕ)) (key told : ℕ) (old written new : BTreeMap ℕ ℕ) (earlier : List ℕ) → IsEachKeyed names old earlier → now ≡ names → told ≡ last_of old key → Updates nat_cmp old written key (Some told) → new.entries ≡ written.entries → IsEachKeyed now new earlier
each-same names now key told old written new earlier k now-is told-is u same =
    let hash = bucket_at sip_hash names in
    subst (λ (l : List (List ℕ)). IsEachKeyed l new earlier) (sym now-is) (record {
      all = record {
        keyed = keyed-again hash (length names) written new earlier same (keyed-same hash (length names) key old written earlier k.all.keyed (subst (λ (n : ℕ). Updates nat_cmp old written key (Some n)) told-is u));
        room = k.all.room;
      };
      distinct = k.distinct;
    })

-- all names, with a new one
keyed-new : (names : List (List ℕ)) (name : List ℕ) (key told last next : ℕ) (old written new : BTreeMap ℕ ℕ) (earlier : List ℕ) → IsEachKeyed names old earlier → position (bytes_eq name) names ≡ None → length names < length earlier → key ≡ sip_hash name
    → told ≡ last_of old key → last ≡ told → next ≡ suc (length names) → Updates nat_cmp old written key (Some next) → new.entries ≡ written.entries → IsEachKeyed (names ++ name ∷ []) new (set earlier (length names) last)
keyed-new names name key told last next old written new earlier k fresh room key-is told-is last-is next-is u same = record {
  all = record {
    keyed = subst (λ (n : ℕ). IsKeyed hash n new (set earlier (length names) last)) (sym (length-append names (name ∷ [])))
        (keyed-next all name (length names) key told last next old written new earlier grown room (get_or_push names name [] (length names) refl) key-is told-is last-is next-is u same);
    room = omega (arith, length-append names (name ∷ []), length-set earlier (length names) last, room);
  };
  distinct = subst AreDistinct (sym (new-key names all name fresh refl)) (distinct_insert names name k.distinct);
}
  where
    all : List (List ℕ)
    all = names ++ name ∷ []

    hash : ℕ → ℕ
    hash = bucket_at sip_hash all

    agree : (i : ℕ) → i < length names → bucket_at sip_hash names i ≡ hash i
    agree = same-buckets sip_hash names name

    grown : IsKeyed hash (length names) old earlier
    grown = record {
      heads = λ h. k.all.keyed.heads h ∙ last_in-same (bucket_at sip_hash names) hash h (length names) agree;
      links = linked-same (bucket_at sip_hash names) hash (length names) earlier agree k.all.keyed.links;
    }

pub each-new : (names now : List (List ℕ)) (name : List ℕ) (n key told last next : ℕ) (old written new : BTreeMap ℕ ℕ) (earlier : List ℕ) → IsEachKeyed names old earlier → now ≡ names ++ name ∷ [] → position (bytes_eq name) names ≡ None → length names < length earlier
    → n ≡ length names → key ≡ sip_hash name → told ≡ last_of old key → last ≡ told → next ≡ n + 1 → Updates nat_cmp old written key (Some next) → new.entries ≡ written.entries → IsEachKeyed now new (set earlier n last)
each-new names now name n key told last next old written new earlier k now-is fresh room n-is key-is told-is last-is next-is u same =
    subst (λ (l : List (List ℕ)). IsEachKeyed l new (set earlier n last)) (sym now-is) (subst (λ (i : ℕ). IsEachKeyed (names ++ name ∷ []) new (set earlier i last)) (sym n-is)
    (keyed-new names name key told last next old written new earlier k fresh room key-is told-is last-is (omega (arith, next-is, n-is)) u same))
