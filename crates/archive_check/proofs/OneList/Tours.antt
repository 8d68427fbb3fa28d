-- Tight tours of twins visit the same regions, and the pointers are the same.
use Rattle.std.proofs.Common.{◌≡◌, ℕ, pos, List, [], ◌∷◌, ◌++◌, Some, None, All, refl, sym, ap, ap₂, ◌∙◌, subst}
use Rattle.std.proofs.lemmas.List.Elements.{All-nil, All-cons, All-append}
use Rattle.std.specs.FinMap.{get}
use Rattle.archive_check.specs.Shape.{Flavor, Pointee}
use Rattle.archive_check.specs.Layout.{up}
use Rattle.archive_check.specs.Value.{Pointer, Value, pointers}
use Rattle.archive_check.specs.Reads.{SchemaTable}
use Rattle.archive_check.specs.Tour.{Region, region_of, pointee_align, Contents, Leads, Entry, entry, Seen, Tour, tour_end, tour_unique, tour_new, tour_again}
use Rattle.archive_check.specs.Denotes.{Fills}
use Rattle.archive_check.specs.Tightness.{after, Tight}
use Rattle.archive_check.proofs.Tours.ReadingUnique.{contents_one_value, pos_one}
use Rattle.archive_check.proofs.Editing.RevisedTour.{tour_grows}
use Rattle.archive_check.proofs.Tours.Seen.{inserted_has, same_some}
use Rattle.archive_check.proofs.OneList.Twins.{Renamed, Twin, Twins, twins_none, twins_more, Like, names, unique_filled, shared_filled, contents_like}

-- up to a region of a tight list, and on behind it
pub tight_split : (start : ℕ) (C : List Region) (r : Region) (D : List Region) (next : ℕ) → Tight start (C ++ r ∷ D) next → (mid : ℕ) × Tight start C mid × (r.begin ≡ up mid r.align) × Tight (after r) D next
tight_split start [] r D next h = (start, refl, h.0, h.1)
tight_split start (q ∷ C) r D next h = let (mid, f, e, g) = tight_split (after q) C r D next (h.1) in (mid, (h.0, f), e, g)

pub tight_next : (start : ℕ) (C : List Region) (m n : ℕ) → Tight start C m → Tight start C n → m ≡ n
tight_next start [] m n h k = h ∙ sym k
tight_next start (r ∷ C) m n h k = tight_next (after r) C m n (h.1) (k.1)

-- P at q says the same in both buffers
pub record SaidAlike (s : SchemaTable) (a b : List ℕ) (q : ℕ) (P : Pointee) (n : ℕ) : Type 0 where
  pub value : Value
  pub other : Value
  pub left : Contents s a q P n value
  pub right : Contents s b q P n other
  pub same : value ≡ other

-- so does what the region holds
abbrev pub Alike : SchemaTable → List ℕ → List ℕ → Region → Type 0
Alike s a b r = SaidAlike s a b r.begin r.pointee r.length

-- two tours follow the same pointers, visit the same regions, which say the same in both buffers, and meet the same shared positions
pub record SameTours (s : SchemaTable) (a b : List ℕ) (O Q : List Pointer) (C D : List Region) (last other : Seen) : Type 0 where
  pub followed : O ≡ Q
  pub visited : C ≡ D
  pub met : last ≡ other
  pub alike : All (Alike s a b) C

module _ (s : SchemaTable) (a b : List ℕ) (to : ℕ → ℕ) where
  -- shared positions that both maps have, the second one under other names, are known as the same, and filled alike
  abbrev pub KnownAlike : Seen → Seen → Type 0
  KnownAlike final ending = (t u : ℕ) (e f : Entry) → u ≡ to t → get final t ≡ Some e → get ending u ≡ Some f
      → (e ≡ f) × (v : Value) × (w : Value) × (x : Value) × (y : Value) × Contents s a t e.pointee e.length v × Contents s b u e.pointee e.length w × Fills s a v x × Fills s b w y × Renamed to x y

  abbrev pub Grows : Seen → Seen → Type 0
  Grows last final = (t : ℕ) (e : Entry) → get last t ≡ Some e → get final t ≡ Some e

  moved : {t u n m : ℕ} {P Q : Pointee} {v : Value} → t ≡ u → P ≡ Q → n ≡ m → Contents s b u Q m v → Contents s b t P n v
  moved e f g c = rw (e, f, g) c

  same_pointer : (p q : Pointer) → p.target ≡ q.target → p.sharing ≡ q.sharing → p.order ≡ q.order → p.pointee ≡ q.pointee → p.length ≡ q.length → p ≡ q
  same_pointer p q e f o g h = λ i. record { target = e i; sharing = f i; order = o i; pointee = g i; length = h i }

  joined : {p q : Pointer} {O Q : List Pointer} {t u : ℕ} {C D E F : List Region} {last other : Seen} → p ≡ q → t ≡ u → C ≡ E → All (Alike s a b) C → Alike s a b (region_of s p t) → SameTours s a b O Q D F last other
      → SameTours s a b (p ∷ O) (q ∷ Q) (C ++ region_of s p t ∷ D) (E ++ region_of s q u ∷ F) last other
  joined {p = p} {t = t} {C = C} {D = D} e f g h k r = record {
    followed = ap₂ (λ x y. x ∷ y) e r.followed;
    visited = ap₂ (λ x y. x ++ y) g (ap₂ (λ x y. x ∷ y) (ap₂ (region_of s) e f) r.visited);
    met = r.met;
    alike = All-append (Alike s a b) C (region_of s p t ∷ D) h (All-cons (Alike s a b) (region_of s p t) D k r.alike);
  }

  pub arrive : {p q : Pointer} {t u : ℕ} {C E : List Region} (start c o : ℕ) → Twin s a b to p q → C ≡ E → Tight start C c → Tight start E o → t ≡ up c (pointee_align s p.pointee) → u ≡ up o (pointee_align s q.pointee) → t ≡ u
  arrive {C = C} {E = E} start c o z visited hc kc hb kb =
      let same : c ≡ o = tight_next start C c o hc (subst (λ L. Tight start L o) (sym visited) kc) in
      hb ∙ ap₂ up same (ap (pointee_align s) z.pointee) ∙ sym kb

  go_on : {p q : Pointer} {O Q : List Pointer} {t u : ℕ} {v w : Value} {C D E F : List Region} {mid middle last other : Seen} (m n : ℕ) → Twin s a b to p q → Leads s a p t v → Leads s b q u w → p.length ≡ q.length
      → Like s a b to v w → t ≡ u → SameTours s a b (pointers v) (pointers w) C E mid middle → Tight (after (region_of s p t)) D m → Tight (after (region_of s q u)) F n
      → (middle ≡ mid → Tight (after (region_of s p t)) D m → Tight (after (region_of s p t)) F n → SameTours s a b O Q D F last other)
      → SameTours s a b (p ∷ O) (q ∷ Q) (C ++ region_of s p t ∷ D) (E ++ region_of s q u ∷ F) last other
  go_on {p = p} {q = q} {v = v} {w = w} {F = F} m n z l r long like here inner hd kd rest =
      let this : p ≡ q = same_pointer p q (l.target ∙ ap pos here ∙ sym r.target) z.sharing z.order z.pointee long in
      joined this here inner.visited inner.alike (record { value = v; other = w; left = l.contents; right = moved here z.pointee long r.contents; same = like.1 inner.followed })
      (rest (sym inner.met) hd (subst (λ r. Tight (after r) F n) (sym (ap₂ (region_of s) this here)) kd))

  -- Two pointers lead to what says the same. What their regions own is toured alike, and so is the rest.
  visit : {p q : Pointer} {O Q : List Pointer} {t u : ℕ} {v w x y : Value} {C D E F : List Region} {mid middle last other : Seen} (start m n : ℕ) → Twin s a b to p q → Leads s a p t v → Leads s b q u w → p.length ≡ q.length
      → Fills s a v x → Fills s b w y → Renamed to x y → Tight start (C ++ region_of s p t ∷ D) m → Tight start (E ++ region_of s q u ∷ F) n
      → ((c o : ℕ) → Twins s a b to (pointers v) (pointers w) → Tight start C c → Tight start E o → SameTours s a b (pointers v) (pointers w) C E mid middle)
      → (middle ≡ mid → Tight (after (region_of s p t)) D m → Tight (after (region_of s p t)) F n → SameTours s a b O Q D F last other)
      → SameTours s a b (p ∷ O) (q ∷ Q) (C ++ region_of s p t ∷ D) (E ++ region_of s q u ∷ F) last other
  visit {p = p} {q = q} {t = t} {u = u} {C = C} {D = D} {E = E} {F = F} start m n z l r long f g renamed h k owned rest =
      let (c, hc, hb, hd) = tight_split start C (region_of s p t) D m h in
      let (o, kc, kb, kd) = tight_split start E (region_of s q u) F n k in
      let like = contents_like s a b to l.contents (rw (sym z.pointee) at r.contents) long f g renamed in
      let inner = owned c o (like.0) hc kc in go_on m n z l r long like (arrive start c o z inner.visited hc kc hb kb) inner hd kd rest

  -- twins that are shared lead to a position and its other name
  pub same_name : {p q : Pointer} {flavor kind : Flavor} {t u : ℕ} → Twin s a b to p q → p.sharing ≡ Some flavor → q.sharing ≡ Some kind → p.target ≡ pos t → q.target ≡ pos u → u ≡ to t
  same_name z e d there that =
      let (t, f, g) = shared_filled s a e z.left in let (u, h, k) = shared_filled s b d z.right in
      pos_one (sym that ∙ k) ∙ names to f h z.renamed ∙ ap to (pos_one (sym g ∙ there))

  pub never_shared : {p q : Pointer} {flavor : Flavor} → Twin s a b to p q → p.sharing ≡ None → q.sharing ≡ Some flavor → ⊥
  never_shared z f g = let e = z.sharing in cc

  pub ever_shared : {p q : Pointer} {flavor : Flavor} → Twin s a b to p q → p.sharing ≡ Some flavor → q.sharing ≡ None → ⊥
  ever_shared z f g = let e = z.sharing in cc

  never_known : (seen : Seen) {t u : ℕ} {e : Entry} → t ≡ u → get seen t ≡ None → get seen u ≡ Some e → ⊥
  never_known seen {t} {u} same none has = let here : get seen t ≡ get seen u = ap (get seen) same in cc

  again : (seen : Seen) {last other : Seen} {p q : Pointer} {flavor kind : Flavor} {O Q : List Pointer} {t u : ℕ} {C D : List Region} → Twin s a b to p q → p.target ≡ pos t → q.target ≡ pos u → t ≡ u
      → get seen t ≡ Some (entry flavor p) → get seen u ≡ Some (entry kind q) → SameTours s a b O Q C D last other → SameTours s a b (p ∷ O) (q ∷ Q) C D last other
  again seen {p = p} {q = q} {flavor = flavor} {kind = kind} z there that here has had r =
      let same : entry flavor p ≡ entry kind q = same_some (sym has ∙ ap (get seen) here ∙ had) in
      record { followed = ap₂ (λ x y. x ∷ y) (same_pointer p q (there ∙ ap pos here ∙ sym that) z.sharing z.order z.pointee (ap (λ e. e.length) same)) r.followed; visited = r.visited; met = r.met; alike = r.alike }

  -- what is known of a shared position, in both buffers
  pub record Known (p q : Pointer) (flavor kind : Flavor) (v w : Value) : Type 0 where
    pub same : entry flavor p ≡ entry kind q
    pub filled : Value
    pub other : Value
    pub left : Fills s a v filled
    pub right : Fills s b w other
    pub renamed : Renamed to filled other

  module _ (final ending : Seen) (known : KnownAlike final ending) where
    pub found : {p q : Pointer} {flavor kind : Flavor} {t u : ℕ} {v w : Value} → u ≡ to t → Twin s a b to p q → Leads s a p t v → Leads s b q u w → get final t ≡ Some (entry flavor p) → get ending u ≡ Some (entry kind q) → Known p q flavor kind v w
    found {p = p} {q = q} {flavor = flavor} {kind = kind} {t = t} {u = u} here z l r has had =
        let (same, v, w, x, y, i, j, f, g, renamed) = known t u (entry flavor p) (entry kind q) here has had in
        record { same = same; filled = x; other = y; left = rw (contents_one_value i l.contents) at f; right = rw (contents_one_value j (moved refl z.pointee (ap (λ e. e.length) same) r.contents)) at g; renamed = renamed }

    pub met_new : {bytes inner pending : List ℕ} {first mid last : Seen} {O P : List Pointer} {C D : List Region} (t : ℕ) (e : Entry) → get first t ≡ Some e → Tour s bytes inner first O C mid → Tour s bytes pending mid P D last → get last t ≡ Some e
    met_new t e h i j = tour_grows j t e (tour_grows i t e h)

    -- where those positions keep their names, the tours are the same
    module _ (stays : (t : ℕ) (e : Entry) → get final t ≡ Some e → to t ≡ t) where
      pub tours_same : {pending waiting : List ℕ} {seen last other : Seen} {O Q : List Pointer} {C D : List Region} (start m n : ℕ) → Twins s a b to O Q → Tour s a pending seen O C last → Tour s b waiting seen Q D other
          → Tight start C m → Tight start D n → Grows last final → Grows other ending → SameTours s a b O Q C D last other
      tours_same start m n twins_none tour_end tour_end h k f g = record { followed = refl; visited = refl; met = refl; alike = All-nil (Alike s a b) }
      tours_same start m n (twins_more z zs) (tour_unique {p = p} {t = t} e l i j) (tour_unique d r x y) h k f g =
          visit start m n z l r (z.length e) (unique_filled s a e l z.left) (unique_filled s b d r z.right) z.renamed h k
          (λ c o twins hc kc. tours_same start c o twins i x hc kc (λ t e z. f t e (tour_grows j t e z)) (λ t e z. g t e (tour_grows y t e z)))
          (λ same hd kd. tours_same (after (region_of s p t)) m n zs j (rw same at y) hd kd f g)
      tours_same start m n (twins_more z zs) (tour_unique e l i j) (tour_new d none r x y) h k f g = absurd (never_shared z e d)
      tours_same start m n (twins_more z zs) (tour_unique e l i j) (tour_again d there has free y) h k f g = absurd (never_shared z e d)
      tours_same start m n (twins_more z zs) (tour_new e none l i j) (tour_unique d r x y) h k f g = absurd (ever_shared z e d)
      tours_same start m n (twins_more z zs) (tour_again e there has free j) (tour_unique d r x y) h k f g = absurd (ever_shared z e d)
      tours_same start m n (twins_more z zs) (tour_new {seen = seen} {p = p} {t = t} {flavor = flavor} e none l i j) (tour_new {p = q} {t = u} {flavor = kind} d never r x y) h k f g =
          let has = f t (entry flavor p) (met_new t (entry flavor p) (inserted_has seen t (entry flavor p)) i j) in
          let name = same_name z e d l.target r.target in let here : t ≡ u = sym (name ∙ stays t (entry flavor p) has) in
          let known = found {flavor = flavor} {kind = kind} name z l r has (g u (entry kind q) (met_new u (entry kind q) (inserted_has seen u (entry kind q)) x y)) in
          visit start m n z l r (ap (λ e. e.length) known.same) known.left known.right known.renamed h k
          (λ c o twins hc kc. tours_same start c o twins i (rw (sym here, sym known.same) at x) hc kc (λ t e z. f t e (tour_grows j t e z)) (λ t e z. g t e (tour_grows y t e z)))
          (λ same hd kd. tours_same (after (region_of s p t)) m n zs j (rw same at y) hd kd f g)
      tours_same start m n (twins_more z zs) (tour_new {seen = seen} {p = p} {t = t} {flavor = flavor} e none l i j) (tour_again d there has free y) h k f g =
          absurd (never_known seen (sym (same_name z e d l.target there ∙ stays t (entry flavor p) (f t (entry flavor p) (met_new t (entry flavor p) (inserted_has seen t (entry flavor p)) i j)))) none has)
      tours_same start m n (twins_more z zs) (tour_again {seen = seen} {p = p} {t = t} {flavor = flavor} e there has free j) (tour_new d none r x y) h k f g =
          absurd (never_known seen (same_name z e d there r.target ∙ stays t (entry flavor p) (f t (entry flavor p) (tour_grows j t (entry flavor p) has))) none has)
      tours_same start m n (twins_more z zs) (tour_again {seen = seen} {p = p} {t = t} {flavor = flavor} e there has free j) (tour_again d that had calm y) h k f g =
          again seen z there that (sym (same_name z e d there that ∙ stays t (entry flavor p) (f t (entry flavor p) (tour_grows j t (entry flavor p) has)))) has had (tours_same start m n zs j y h k f g)
