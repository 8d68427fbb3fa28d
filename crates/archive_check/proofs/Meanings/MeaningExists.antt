-- An accepted buffer has a meaning.
use Rattle.std.proofs.Common.{◌≡◌, ℕ, List, Option, Some, Bool, true, false, cond, nat_cmp, refl}
use Rattle.std.specs.FinMap.{FinMap, get, insert, empty, get-insert, get-empty}
use Rattle.std.specs.Cmp.{nat_cmp_total}
use Rattle.std.specs.Ordering.{eq_by_cmp}
use Rattle.archive_check.specs.Shape.{Shape}
use Rattle.archive_check.specs.Value.{Pointer, Value}
use Rattle.archive_check.specs.Reads.{SchemaTable}
use Rattle.archive_check.specs.Tour.{Region, Entry, Seen, entry, Contents, Tour, tour_end, tour_unique, tour_new, tour_again, Accepted}
use Rattle.archive_check.specs.Denotes.{Meaning, Fills, IsSharedValue, Denotes}
use Rattle.archive_check.proofs.Meanings.MeaningUnique.{fill, tour_fills, accepted_fills}
use Rattle.archive_check.proofs.Tours.Seen.{same_key}

-- the values of the positions that are seen
record Known (s : SchemaTable) (bytes : List ℕ) (seen : Seen) : Type 0 where
  shared : FinMap nat_cmp (Entry × Value)
  knows : (t : ℕ) → IsSharedValue s bytes t (get seen t) (get shared t)

module _ (s : SchemaTable) (bytes : List ℕ) where
  known_at : (q t : ℕ) (e : Entry) (v w : Value) (old : Option Entry) (known : Option (Entry × Value)) → Contents s bytes t e.pointee e.length v → Fills s bytes v w → IsSharedValue s bytes q old known
      → (b : Bool) → eq_by_cmp nat_cmp q t ≡ b → IsSharedValue s bytes q (cond b (Some e) old) (cond b (Some (e, w)) known)
  known_at q t e v w old known c f h true is = (v, w, rw (same_key q t is) c, f, refl)
  known_at q t e v w old known c f h false is = h

  -- one more position, where it is filled
  pub knows_insert : (seen : Seen) (shared : FinMap nat_cmp (Entry × Value)) (t : ℕ) (e : Entry) (v w : Value) → Contents s bytes t e.pointee e.length v → Fills s bytes v w
      → ((q : ℕ) → IsSharedValue s bytes q (get seen q) (get shared q)) → (q : ℕ) → IsSharedValue s bytes q (get (insert seen t e) q) (get (insert shared t (e, w)) q)
  knows_insert seen shared t e v w c f h q = rw (get-insert nat_cmp_total seen t e q, get-insert nat_cmp_total shared t (e, w) q)
      (known_at q t e v w (get seen q) (get shared q) c f (h q) (eq_by_cmp nat_cmp q t) refl)

  known_insert : {seen : Seen} (t : ℕ) (e : Entry) (v w : Value) → Contents s bytes t e.pointee e.length v → Fills s bytes v w → Known s bytes seen → Known s bytes (insert seen t e)
  known_insert {seen = seen} t e v w c f h = record { shared = insert h.shared t (e, w); knows = knows_insert seen h.shared t e v w c f h.knows }

  tour_knows : {pending : List ℕ} {seen last : Seen} {O : List Pointer} {C : List Region} → Tour s bytes pending seen O C last → Known s bytes seen → Known s bytes last
  tour_knows tour_end h = h
  tour_knows (tour_unique e l i j) h = tour_knows j (tour_knows i h)
  tour_knows (tour_new {p = p} {t = t} {v = v} {flavor = flavor} e none l i j) h =
      let r = fill s bytes v (tour_fills s bytes i) in
      tour_knows j (tour_knows i (known_insert t (entry flavor p) v (r.0) l.contents (r.1) h))
  tour_knows (tour_again e t known free j) h = tour_knows j h

  pub has_meaning : {root : ℕ} {X : Shape} → Accepted s bytes root X → (m : Meaning) × Denotes s bytes root X m
  has_meaning a =
      let r = accepted_fills s bytes a in
      let k = tour_knows a.tour (record { shared = empty; knows = λ q. rw (get-empty {X = Entry} nat_cmp q) (get-empty {X = Entry × Value} nat_cmp q) }) in
      (record { value = r.0; shared = k.shared }, record { accepted = a; root_value = r.1; shared = k.knows })
