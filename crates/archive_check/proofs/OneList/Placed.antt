-- Tight tours of twins visit the same regions, so each shared position that they meet keeps its name.
use Rattle.std.proofs.Common.{◌≡◌, ◌≢◌, ◌⊎◌, inl, inr, ⊎_elim, ℕ, pos, List, ◌∷◌, ◌++◌, Some, None, is_some, Bool, true, false, nat_eq, arith, refl, sym, ap, ap₂, ◌∙◌, subst}
use Rattle.std.proofs.lemmas.Bool.Decides.{nat_tests}
use Rattle.std.specs.FinMap.{get, insert}
use Rattle.archive_check.specs.Shape.{Flavor}
use Rattle.archive_check.specs.Value.{Pointer, Value, pointers}
use Rattle.archive_check.specs.Reads.{SchemaTable}
use Rattle.archive_check.specs.Tour.{Region, region_at, region_of, Leads, Entry, entry, Seen, Tour, tour_end, tour_unique, tour_new, tour_again}
use Rattle.archive_check.specs.Denotes.{Fills}
use Rattle.archive_check.specs.Tightness.{after, Tight}
use Rattle.archive_check.proofs.Editing.RevisedTour.{tour_grows}
use Rattle.archive_check.proofs.Tours.Seen.{inserted_has, inserted_apart}
use Rattle.archive_check.proofs.OneList.Twins.{Renamed, Twin, Twins, twins_none, twins_more, unique_filled, contents_like}
use Rattle.archive_check.proofs.OneList.Tours.{KnownAlike, tight_split, arrive, same_name, never_shared, ever_shared, found, met_new}

-- what the first map has of the positions that are met in the end, the second one has under their other names
abbrev pub Related : (ℕ → ℕ) → Seen → Seen → Seen → Type 0
Related to final seen other = (t : ℕ) (e : Entry) → get final t ≡ Some e → get other (to t) ≡ get seen t

-- the regions are the same, and each position that is new in a map keeps its name
pub record Placed (to : ℕ → ℕ) (final : Seen) (C D : List Region) (seen last other : Seen) : Type 0 where
  pub regions : C ≡ D
  pub related : Related to final last other
  pub kept : (t : ℕ) (e : Entry) → get last t ≡ Some e → (get seen t ≡ Some e) ⊎ (to t ≡ t)

same_region : (s : SchemaTable) (p q : Pointer) {t u : ℕ} → t ≡ u → p.pointee ≡ q.pointee → p.length ≡ q.length → p.sharing ≡ q.sharing → region_of s p t ≡ region_of s q u
same_region s p q e f g h = λ i. region_at s (e i) (f i) (g i) (is_some (h i))

module _ (to : ℕ → ℕ) (final : Seen) where
  joined : {C D E F : List Region} {r q : Region} {seen first mid middle last other : Seen} → r ≡ q → Placed to final C E first mid middle → Placed to final D F mid last other
      → ((t : ℕ) (e : Entry) → get first t ≡ Some e → (get seen t ≡ Some e) ⊎ (to t ≡ t)) → Placed to final (C ++ r ∷ D) (E ++ q ∷ F) seen last other
  joined same own rest begun = record {
    regions = ap₂ (λ x y. x ++ y) own.regions (ap₂ (λ x y. x ∷ y) same rest.regions);
    related = rest.related;
    kept = λ t e h. ⊎_elim (λ k. ⊎_elim (begun t e) (λ l. inr l) (own.kept t e k)) (λ k. inr k) (rest.kept t e h);
  }

  -- one position more
  kept_more : (seen : Seen) (t : ℕ) (e : Entry) → to t ≡ t → (q : ℕ) (f : Entry) → get (insert seen t e) q ≡ Some f → (get seen q ≡ Some f) ⊎ (to q ≡ q)
  kept_more seen t e here q f h = by_test (nat_eq q t) refl
    where
      by_test : (b : Bool) → nat_eq q t ≡ b → (get seen q ≡ Some f) ⊎ (to q ≡ q)
      by_test true k = let this : q ≡ t = grind (arith, nat_tests) in inr (rw this here)
      by_test false k = let other : q ≢ t = grind (arith, nat_tests) in inl (sym (inserted_apart seen t q e other) ∙ h)

  related_more : ((t u : ℕ) (e f : Entry) → get final t ≡ Some e → get final u ≡ Some f → to t ≡ to u → t ≡ u) → (seen other : Seen) (t u : ℕ) (e f : Entry) → u ≡ to t → e ≡ f → get final t ≡ Some e → Related to final seen other
      → Related to final (insert seen t e) (insert other u f)
  related_more apart seen other t u e f name same has related q g met = by_test (nat_eq q t) refl
    where
      by_test : (b : Bool) → nat_eq q t ≡ b → get (insert other u f) (to q) ≡ get (insert seen t e) q
      by_test true k =
          let this : q ≡ t = grind (arith, nat_tests) in let there : to q ≡ u = ap to this ∙ sym name in
          ap (get (insert other u f)) there ∙ inserted_has other u f ∙ ap Some (sym same) ∙ sym (inserted_has seen t e) ∙ ap (get (insert seen t e)) (sym this)
      by_test false k =
          let differ : q ≢ t = grind (arith, nat_tests) in
          inserted_apart other u (to q) f (λ z. differ (apart q t g e met has (z ∙ name))) ∙ related q g met ∙ sym (inserted_apart seen t q e differ)

  never_known : (seen other : Seen) {t u : ℕ} {e f : Entry} → u ≡ to t → get final t ≡ Some f → Related to final seen other → get seen t ≡ None → get other u ≡ Some e → ⊥
  never_known seen other {t} {u} {e} {f} name has related none met = let here = related t f has in let there = ap (get other) name in cc

  ever_known : (seen other : Seen) {t u : ℕ} {e f : Entry} → u ≡ to t → get final t ≡ Some f → Related to final seen other → get seen t ≡ Some e → get other u ≡ None → ⊥
  ever_known seen other {t} {u} {e} {f} name has related met none = let here = related t f has in let there = ap (get other) name in cc

-- Two tours stand so: their regions are tight, the maps are related, and what is met in them is met in the end.
pub record Begun (to : ℕ → ℕ) (final ending : Seen) (start m n : ℕ) (C D : List Region) (seen before last other : Seen) : Type 0 where
  pub left : Tight start C m
  pub right : Tight start D n
  pub related : Related to final seen before
  pub grows : (t : ℕ) (e : Entry) → get last t ≡ Some e → get final t ≡ Some e
  pub spreads : (t : ℕ) (e : Entry) → get other t ≡ Some e → get ending t ≡ Some e

module _ (s : SchemaTable) (a b : List ℕ) (to : ℕ → ℕ) (final ending : Seen) (known : KnownAlike s a b to final ending) (apart : (t u : ℕ) (e f : Entry) → get final t ≡ Some e → get final u ≡ Some f → to t ≡ to u → t ≡ u) where
  abbrev Begins : ℕ → ℕ → ℕ → List Region → List Region → Seen → Seen → Seen → Seen → Type 0
  Begins = Begun to final ending

  -- Two pointers lead to what says the same. What their regions own is toured alike, and so is the rest.
  place : {pending waiting : List ℕ} {p q : Pointer} {O Q : List Pointer} {t u : ℕ} {v w x y : Value} {C D E F : List Region} {seen before first second mid middle last other : Seen} (start m n : ℕ) → Twin s a b to p q → Leads s a p t v → Leads s b q u w → p.length ≡ q.length
      → Fills s a v x → Fills s b w y → Renamed to x y → Tour s a pending mid O D last → Tour s b waiting middle Q F other → Begins start m n (C ++ region_of s p t ∷ D) (E ++ region_of s q u ∷ F) seen before last other → Related to final first second
      → ((c o : ℕ) → Twins s a b to (pointers v) (pointers w) → Begins start c o C E first second mid middle → Placed to final C E first mid middle)
      → (t ≡ u → (k : ℕ) (e : Entry) → get first k ≡ Some e → (get seen k ≡ Some e) ⊎ (to k ≡ k))
      → (Begins (after (region_of s p t)) m n D F mid middle last other → Placed to final D F mid last other)
      → Placed to final (C ++ region_of s p t ∷ D) (E ++ region_of s q u ∷ F) seen last other
  place {p = p} {q = q} {t = t} {u = u} {C = C} {D = D} {E = E} {F = F} start m n z l r long f g renamed j k h met owned begun rest =
      let (c, hc, hb, hd) = tight_split start C (region_of s p t) D m h.left in
      let (o, kc, kb, kd) = tight_split start E (region_of s q u) F n h.right in
      let like = contents_like s a b to l.contents (rw (sym z.pointee) at r.contents) long f g renamed in
      let inner = owned c o (like.0) (record { left = hc; right = kc; related = met; grows = λ t e i. h.grows t e (tour_grows j t e i); spreads = λ t e i. h.spreads t e (tour_grows k t e i) }) in
      let here : t ≡ u = arrive s a b to start c o z inner.regions hc kc hb kb in
      let region = same_region s p q here z.pointee long z.sharing in
      joined to final region inner (rest (record { left = hd; right = subst (λ r. Tight (after r) F n) (sym region) kd; related = inner.related; grows = h.grows; spreads = h.spreads })) (begun here)

  place_unique : {pending waiting : List ℕ} {p q : Pointer} {O Q : List Pointer} {t u : ℕ} {v w : Value} {C D E F : List Region} {seen before mid middle last other : Seen} (start m n : ℕ) → Twin s a b to p q → p.sharing ≡ None → q.sharing ≡ None → Leads s a p t v → Leads s b q u w
      → Tour s a pending mid O D last → Tour s b waiting middle Q F other → Begins start m n (C ++ region_of s p t ∷ D) (E ++ region_of s q u ∷ F) seen before last other
      → ((c o : ℕ) → Twins s a b to (pointers v) (pointers w) → Begins start c o C E seen before mid middle → Placed to final C E seen mid middle)
      → (Begins (after (region_of s p t)) m n D F mid middle last other → Placed to final D F mid last other)
      → Placed to final (C ++ region_of s p t ∷ D) (E ++ region_of s q u ∷ F) seen last other
  place_unique start m n z e d l r j k h owned rest =
      place start m n z l r (z.length e) (unique_filled s a e l z.left) (unique_filled s b d r z.right) z.renamed j k h h.related owned (λ here t e h. inl h) rest

  -- the same of shared pointers, where both positions are new
  place_new : {pending waiting inner within : List ℕ} {p q : Pointer} {O Q : List Pointer} {flavor kind : Flavor} {t u : ℕ} {v w : Value} {C D E F : List Region} {seen before mid middle last other : Seen} (start m n : ℕ) → Twin s a b to p q → p.sharing ≡ Some flavor → q.sharing ≡ Some kind
      → Leads s a p t v → Leads s b q u w → Tour s a inner (insert seen t (entry flavor p)) (pointers v) C mid → Tour s b within (insert before u (entry kind q)) (pointers w) E middle
      → Tour s a pending mid O D last → Tour s b waiting middle Q F other → Begins start m n (C ++ region_of s p t ∷ D) (E ++ region_of s q u ∷ F) seen before last other
      → ((c o : ℕ) → Twins s a b to (pointers v) (pointers w) → Begins start c o C E (insert seen t (entry flavor p)) (insert before u (entry kind q)) mid middle → Placed to final C E (insert seen t (entry flavor p)) mid middle)
      → (Begins (after (region_of s p t)) m n D F mid middle last other → Placed to final D F mid last other)
      → Placed to final (C ++ region_of s p t ∷ D) (E ++ region_of s q u ∷ F) seen last other
  place_new {p = p} {q = q} {flavor = flavor} {kind = kind} {t = t} {u = u} {seen = seen} {before = before} start m n z e d l r i x j y h owned rest =
      let has = h.grows t (entry flavor p) (met_new s a b to final ending known t (entry flavor p) (inserted_has seen t (entry flavor p)) i j) in
      let had = h.spreads u (entry kind q) (met_new s a b to final ending known u (entry kind q) (inserted_has before u (entry kind q)) x y) in
      let name = same_name s a b to z e d l.target r.target in
      let known = found s a b to final ending known {flavor = flavor} {kind = kind} name z l r has had in
      place start m n z l r (ap (λ e. e.length) known.same) known.left known.right known.renamed j y h (related_more to final apart seen before t u (entry flavor p) (entry kind q) name known.same has h.related)
      owned (λ here. kept_more to final seen t (entry flavor p) (sym (here ∙ name))) rest

  -- no position is new in one tour alone
  one_new : {pending inner : List ℕ} {p q : Pointer} {O : List Pointer} {flavor kind : Flavor} {t u start m n : ℕ} {v : Value} {C D E F : List Region} {seen before mid last other : Seen} → Twin s a b to p q → p.sharing ≡ Some flavor → q.sharing ≡ Some kind → Leads s a p t v → q.target ≡ pos u
      → get seen t ≡ None → Tour s a inner (insert seen t (entry flavor p)) (pointers v) C mid → Tour s a pending mid O D last → get before u ≡ Some (entry kind q) → Begins start m n E F seen before last other → ⊥
  one_new {p = p} {flavor = flavor} {t = t} {seen = seen} {before = before} z e d l there none i j met h =
      never_known to final seen before (same_name s a b to z e d l.target there) (h.grows t (entry flavor p) (met_new s a b to final ending known t (entry flavor p) (inserted_has seen t (entry flavor p)) i j)) h.related none met

  other_new : {pending : List ℕ} {p q : Pointer} {O : List Pointer} {flavor kind : Flavor} {t u start m n : ℕ} {w : Value} {D E F : List Region} {seen before last other : Seen} → Twin s a b to p q → p.sharing ≡ Some flavor → q.sharing ≡ Some kind → p.target ≡ pos t → Leads s b q u w
      → get seen t ≡ Some (entry flavor p) → Tour s a pending seen O D last → get before u ≡ None → Begins start m n E F seen before last other → ⊥
  other_new {p = p} {flavor = flavor} {t = t} {seen = seen} {before = before} z e d there r met j none h =
      ever_known to final seen before (same_name s a b to z e d there r.target) (h.grows t (entry flavor p) (tour_grows j t (entry flavor p) met)) h.related met none

  -- and where no position is new, nothing is visited
  place_none : {C D : List Region} {seen before last other : Seen} {start m n : ℕ} → Begins start m n C D seen before last other → (Begins start m n C D seen before last other → Placed to final C D seen last other) → Placed to final C D seen last other
  place_none h rest = rest (record { left = h.left; right = h.right; related = h.related; grows = h.grows; spreads = h.spreads })

  pub tours_placed : {pending waiting : List ℕ} {seen last before other : Seen} {O Q : List Pointer} {C D : List Region} (start m n : ℕ) → Twins s a b to O Q → Tour s a pending seen O C last → Tour s b waiting before Q D other
      → Begins start m n C D seen before last other → Placed to final C D seen last other
  tours_placed start m n twins_none tour_end tour_end h = record { regions = refl; related = h.related; kept = λ t e h. inl h }
  tours_placed start m n (twins_more z zs) (tour_unique {p = p} {t = t} e l i j) (tour_unique d r x y) h =
      place_unique start m n z e d l r j y h (λ c o twins h. tours_placed start c o twins i x h) (λ h. tours_placed (after (region_of s p t)) m n zs j y h)
  tours_placed start m n (twins_more z zs) (tour_unique e l i j) (tour_new d none r x y) h = absurd (never_shared s a b to z e d)
  tours_placed start m n (twins_more z zs) (tour_unique e l i j) (tour_again d there has free y) h = absurd (never_shared s a b to z e d)
  tours_placed start m n (twins_more z zs) (tour_new e none l i j) (tour_unique d r x y) h = absurd (ever_shared s a b to z e d)
  tours_placed start m n (twins_more z zs) (tour_again e there has free j) (tour_unique d r x y) h = absurd (ever_shared s a b to z e d)
  tours_placed start m n (twins_more z zs) (tour_new {p = p} {t = t} e none l i j) (tour_new d never r x y) h =
      place_new start m n z e d l r i x j y h (λ c o twins h. tours_placed start c o twins i x h) (λ h. tours_placed (after (region_of s p t)) m n zs j y h)
  tours_placed start m n (twins_more z zs) (tour_new e none l i j) (tour_again d there met free y) h = absurd (one_new z e d l there none i j met h)
  tours_placed start m n (twins_more z zs) (tour_again e there met free j) (tour_new d none r x y) h = absurd (other_new z e d there r met j none h)
  tours_placed start m n (twins_more z zs) (tour_again e there met free j) (tour_again d that had calm y) h =
      place_none h (λ h. tours_placed start m n zs j y h)
