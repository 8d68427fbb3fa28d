-- A string in place with nothing but 0xff behind its text, which is clean.
use Rattle.std.proofs.Common.{◌≡◌, ℕ, zero, suc, ◌+◌, ◌<◌, ◌≤◌, [], ◌∷◌, slice_index, refl, arith, sym, ap, ◌∙◌, Contains}
use Rattle.std.proofs.lemmas.List.Elements.{All-nil, All-cons, All-contains, Contains-push}
use Rattle.archive_check.specs.Shape.{Shape, str, weak, Pointee, one, run}
use Rattle.archive_check.specs.Reads.{bytes_at}
use Rattle.archive_check.specs.Tour.{Region, root_region}
use Rattle.archive_check.specs.Within.{Within, whole, in_parts, in_choice, in_array, in_named, PartOfRegion, whole_region, in_one, in_run, in_string, PartOfSome}
use Rattle.archive_check.specs.Tightness.{owned_part, Clean}
use Rattle.archive_check.proofs.Examples.Terms.{no_names}
use Rattle.archive_check.proofs.Examples.Strings.{hi}

abbrev pub the_root : Region
the_root = root_region no_names 0 str

abbrev pub HiClean : Type 0
HiClean = Clean no_names hi 0 (the_root ∷ [])

-- nothing lies in a string but itself
within_string : {p : ℕ} {X : Shape} {q : ℕ} {Y : Shape} → Within no_names hi p X q Y → X ≡ str → (q ≡ p) × (Y ≡ str)
within_string whole e = (refl, e)
within_string (in_parts w i) e = let (here, never) = within_string w e in absurd (cc never)
within_string (in_choice w t i) e = let (here, never) = within_string w e in absurd (cc never)
within_string (in_array w below) e = let (here, never) = within_string w e in absurd (cc never)
within_string (in_named w d) e = let (here, never) = within_string w e in absurd (cc never)

one_same : {X Y : Shape} → one X ≡ one Y → X ≡ Y
one_same e = cc

root_pointee : {r : Region} → r ≡ the_root → r.pointee ≡ one str
root_pointee e = ap (λ x. x.pointee) e

part_of_string : {r : Region} {q n : ℕ} {P : Pointee} {Y : Shape} → PartOfRegion no_names hi r q P n → r ≡ the_root → P ≡ one Y → (q ≡ 0) × (Y ≡ str)
part_of_string whole_region e f = (ap (λ x. x.begin) e, one_same (sym f ∙ root_pointee e))
part_of_string (in_one h w) e f =
    let here = within_string w (one_same (sym h ∙ root_pointee e)) in
    (here.0 ∙ ap (λ x. x.begin) e, sym (one_same f) ∙ here.1)
part_of_string (in_run {X = X} h below w) e f = let never : run X ≡ one str = sym h ∙ root_pointee e in cc
part_of_string (in_string i inline) e f = cc

only : (r : Region) → Contains (the_root ∷ []) r → r ≡ the_root
only r c = All-contains (λ x. x ≡ the_root) (the_root ∷ []) r (All-cons (λ x. x ≡ the_root) the_root [] refl (All-nil (λ x. x ≡ the_root))) c

only_string : {q : ℕ} {Y : Shape} → PartOfSome no_names hi (the_root ∷ []) q (one Y) 0 → (q ≡ 0) × (Y ≡ str)
only_string (r, c, i) = part_of_string i (only r c) refl

the_string : PartOfSome no_names hi (the_root ∷ []) 0 (one str) 0
the_string = (the_root, Contains-push [] the_root, in_one refl whole)

behind : (i : ℕ) → 2 ≤ i → i < 8 → slice_index hi i ≡ 0xff
behind (suc (suc zero)) low high = refl
behind (suc (suc (suc zero))) low high = refl
behind (suc (suc (suc (suc zero)))) low high = refl
behind (suc (suc (suc (suc (suc zero))))) low high = refl
behind (suc (suc (suc (suc (suc (suc zero)))))) low high = refl
behind (suc (suc (suc (suc (suc (suc (suc zero))))))) low high = refl
behind i low high = absurd (omega arith)

pub hi_clean : HiClean
unfolding bytes_at
hi_clean = record {
  padding = λ i low high free. absurd (free (owned_part the_string low high));
  strings = λ q i low part inline least most.
      let first : q ≡ 0 = (only_string part).0 in
      let there : q + i ≡ i = omega arith in
      rw there (behind i (rw first at least) most);
  nulls = λ q flavor P low part null. let here = only_string part in let never : weak flavor P ≡ str = here.1 in cc;
}
