-- What is reached, with its map, says one thing.
use Rattle.std.proofs.Common.{◌≡◌, ℕ, List, Option, Some, None, refl, sym}
use Rattle.std.specs.FinMap.{get, same_map, nat_cmp-IsAntisymmetric}
use Rattle.std.specs.Cmp.{nat_cmp_total}
use Rattle.archive_check.specs.Shape.{Shape, Pointee}
use Rattle.archive_check.specs.Reads.{SchemaTable}
use Rattle.archive_check.specs.Value.{Value}
use Rattle.archive_check.specs.Tour.{Accepted}
use Rattle.archive_check.specs.Denotes.{Meaning}
use Rattle.archive_check.specs.Reached.{Reached, ReachedMeaning}
use Rattle.archive_check.proofs.Meanings.MeaningUnique.{meaning_one}
use Rattle.archive_check.proofs.Meanings.ReachedParts.{reached_one, part_reached}
use Rattle.archive_check.proofs.Meanings.MeaningExists.{has_meaning}
use Rattle.archive_check.proofs.Meanings.SelectedEntries.{selected}
use Rattle.archive_check.specs.Leaves.{regions_of}
use Rattle.archive_check.specs.Within.{PartOfSome}

-- options with the same content are the same
same_option : {A : Type 0} (a b : Option A) → ((x : A) → a ≡ Some x → b ≡ Some x) → ((x : A) → b ≡ Some x → a ≡ Some x) → a ≡ b
same_option None None to from = refl
same_option None (Some y) to from = from y refl
same_option (Some x) b to from = sym (to x refl)

module _ (s : SchemaTable) (bytes : List ℕ) where
  pub reached_meaning_one : {root : ℕ} {X : Shape} {p n : ℕ} {P : Pointee} {m o : Meaning} → ReachedMeaning s bytes root X p P n m → ReachedMeaning s bytes root X p P n o → m ≡ o
  reached_meaning_one {m = m} {o = o} h k =
      let values : m.value ≡ o.value = reached_one s bytes h.reached k.reached in
      let archives : h.archive ≡ k.archive = meaning_one s bytes h.denotes k.denotes in
      let there : (t : ℕ) → get m.shared t ≡ get o.shared t = λ t. same_option (get m.shared t) (get o.shared t)
      (λ x known. let r = (h.shared t (x.0) (x.1)).0 known in (k.shared t (x.0) (x.1)).1 (rw (values, archives) at r))
      (λ x known. let r = (k.shared t (x.0) (x.1)).0 known in (h.shared t (x.0) (x.1)).1 (rw (← values, ← archives) at r)) in
      let maps : m.shared ≡ o.shared = same_map nat_cmp_total nat_cmp-IsAntisymmetric m.shared o.shared there in
      λ i. record { value = values i; shared = maps i }

  -- what is reached has a meaning
  pub meaning_of_reached : {root : ℕ} {X : Shape} {p n : ℕ} {P : Pointee} {w : Value} → Reached s bytes root X p P n w → (m : Meaning) × ReachedMeaning s bytes root X p P n m
  meaning_of_reached {w = w} h =
      let (all, d) = has_meaning s bytes h.accepted in
      let chosen = selected all.shared w in (
        record { value = w; shared = chosen.entries },
        record { reached = h; archive = all; denotes = d; shared = λ t e v. (λ k. chosen.same t (e, v) k, λ r. chosen.whole t (e, v) (r.0) (r.1)) },
      )

  pub part_has_meaning : {root : ℕ} {X : Shape} (a : Accepted s bytes root X) {p n : ℕ} {P : Pointee} → PartOfSome s bytes (regions_of a) p P n → (m : Meaning) × ReachedMeaning s bytes root X p P n m
  part_has_meaning a i = let (w, h) = part_reached s bytes a i in meaning_of_reached h
