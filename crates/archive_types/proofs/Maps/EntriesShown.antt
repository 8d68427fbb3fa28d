-- What views of maps lead to: their entries, and the keys and values of these.
use Rattle.std.proofs.Common.{◌≡◌, ℕ, ◌+◌, List, Option, Some, refl, sym, ap, ◌∙◌, subst}
use Rattle.archive_check.specs.Shape.{Key, Shape, parts, sorted_map, Pointee, one, run, no_part, part, key_shape}
use Rattle.archive_check.specs.Layout.{Layout, up, key_size, key_align}
use Rattle.archive_check.specs.Value.{Value}
use Rattle.archive_check.specs.Reads.{u32_at}
use Rattle.archive_check.specs.Readable.{target_from}
use Rattle.archive_check.specs.Definitions.{Definitions, HasLayout}
use Rattle.archive_check.specs.SelfCheck.Maps.{entry_definitions, entry_size, entry_align}
use Rattle.archive_check.specs.Viewed.{Viewed}
use Rattle.archive_check.proofs.Maps.CheckedEntries.{key_first_aligned}
use Rattle.archive_types.specs.Fields.{field_in}
use Rattle.archive_types.specs.Maps.{entry_part}
use Rattle.archive_types.specs.Members.Maps.{entry_is}
use Rattle.archive_types.specs.Members.OrderedPairs.{entry_laid}
use Rattle.archive_types.specs.Views.{itself, element_in, ShowsPart, AreViewed}
use Rattle.archive_types.proofs.Viewing.PartsShown.{OwnerShown, map_shown, map_shows, element_viewed}

-- the entries, of keys that are an X and values that are a V
module _ (D : Definitions) (X V : Shape) (K : Key) (is : X ≡ key_shape K) (bytes : List ℕ) (q n : ℕ) where
  pub entries_shown : Viewed D bytes q (one (sorted_map K V)) n
      → OwnerShown D bytes q (run (parts (part X (part V no_part))))
  entries_shown v = subst (λ Y. OwnerShown D bytes q (run Y)) (sym (entry_is X V K is)) (map_shown D bytes q n K V v)

  pub entries_show : ShowsPart D bytes q (one (sorted_map K V)) n (target_from bytes q q) (run (parts (part X (part V no_part)))) (u32_at bytes (q + 4)) itself
  entries_show = subst (λ Y. ShowsPart D bytes q (one (sorted_map K V)) n (target_from bytes q q) (run Y) (u32_at bytes (q + 4)) itself) (sym (entry_is X V K is)) (map_shows D bytes q n K V)

-- a part of a part is a part
module _ (D : Definitions) (bytes : List ℕ) (q : ℕ) (P : Pointee) (n r : ℕ) (Q : Pointee) (m t : ℕ) (O : Pointee) (o : ℕ) where
  shows_through : (first next joined : Value → Option Value)
      → ((w u x : Value) → first w ≡ Some u → next u ≡ Some x → joined w ≡ Some x)
      → ShowsPart D bytes q P n r Q m first → ShowsPart D bytes r Q m t O o next
      → ShowsPart D bytes q P n t O o joined
  shows_through first next joined along a b = record {
    shown = λ s root X w k i.
        let (u, e, j) = a.shown s root X w k i in
        let (x, f, l) = b.shown s root X u k j in
        (x, along w u x e f, l);
  }

-- the part j of the entry i of the map
pub entry_part_shows : (i j : ℕ) {D : Definitions} {bytes : List ℕ} {q : ℕ} {P : Pointee} {n r : ℕ} {Q : Pointee} {m t : ℕ} {O : Pointee} {o p : ℕ} {Z : Pointee} {z : ℕ} → ShowsPart D bytes q P n r Q m itself
    → ShowsPart D bytes r Q m t O o (element_in i) → ShowsPart D bytes t O o p Z z (field_in j)
    → ShowsPart D bytes q P n p Z z (λ w. entry_part j (element_in i w))
entry_part_shows i j {D} {bytes} {q} {P} {n} {r} {Q} {m} {t} {O} {o} {p} {Z} {z} a b c =
    let element = shows_through D bytes q P n r Q m t O o itself (element_in i) (element_in i) (λ w u x e f. let same : w ≡ u = cc in rw same f) a b in
    shows_through D bytes q P n t O o p Z z (element_in i) (field_in j) (λ w. entry_part j (element_in i w)) (λ w u x e f. rw e f) element c

-- each entry is viewed
pub entries_viewed : (D F : Definitions) (X V : Shape) (L M : Layout) → HasLayout D X L → HasLayout F V M
    → (b : List ℕ) (p n : ℕ)
    → Viewed (entry_definitions D F) b p (run (parts (part X (part V no_part)))) n
    → AreViewed (entry_definitions D F) b p (entry_size L M) (one (parts (part X (part V no_part)))) n
entries_viewed D F X V L M laid valued b p n v k below =
    element_viewed (entry_definitions D F) b p n (parts (part X (part V no_part))) (record { size = entry_size L M; align = entry_align L M }) (entry_laid D F X V L M laid valued) k below
    (one (parts (part X (part V no_part)))) refl v

-- a key begins where its entry does
pub key_begins : (L : Layout) (K : Key) → L ≡ record { size = key_size K; align = key_align K } → up 0 L.align ≡ 0
key_begins L K e = ap (λ l. up 0 l.align) e ∙ key_first_aligned K
