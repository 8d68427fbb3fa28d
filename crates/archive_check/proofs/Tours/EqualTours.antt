-- A tour stays where the bytes of its regions do, as when more bytes are written behind them.
use Rattle.std.proofs.Common.{◌≡◌, refl, ap₂, ℕ, List, [], ◌∷◌, ◌-◌, ◌++◌, length, ◌+◌, ◌≤◌, arith, sym, subst, IsUtf8}
use Rattle.archive_check.specs.Shape.{Pointee}
use Rattle.archive_check.specs.Value.{Pointer, Value, text_value}
use Rattle.archive_check.specs.Reads.{SchemaTable, LaidOut}
use Rattle.archive_check.specs.Keys.{order_of, IsInOrder}
use Rattle.archive_check.proofs.Maps.KeptOrder.{StaysOrdered}
use Rattle.archive_check.specs.Tour.{Region, Rising, pointee_size, Contents, contents_one, contents_run, contents_text, Leads, Seen, Tour, tour_end, tour_unique, tour_new, tour_again, region_of}
use Rattle.archive_check.specs.Leaves.{text_leaf, leaves_of_contents, leaves_of_tour}
use Rattle.archive_check.proofs.Tours.JoinedTours.{rising_le, rising_front, rising_back}
use Rattle.archive_check.proofs.Tours.EqualBytes.{Agrees, agrees_part, reads_agree, run_agree}

module _ (bytes new : List ℕ) (s : SchemaTable) (laid : LaidOut s) where
  pub contents_agree : {t n : ℕ} {P : Pointee} {v : Value} (h : Contents s bytes t P n v) → Agrees bytes new t (pointee_size s P n) → (k : Contents s new t P n v) × (leaves_of_contents k ≡ leaves_of_contents h)
  contents_agree (contents_one r) h = let q = reads_agree bytes new s laid r h in (contents_one (q.0), q.1)
  contents_agree (contents_run r) h = let q = run_agree bytes new s laid r h in (contents_run (q.0), q.1)
  contents_agree {t = t} (contents_text {n = n} u) h =
      subst (λ b. (k : Contents s new t Pointee.text n (text_value b)) × (leaves_of_contents k ≡ text_leaf t b ∷ [])) h.same (contents_text (subst IsUtf8 (sym h.same) u), refl)

  pub leads_agree : {p : Pointer} {t : ℕ} {v : Value} (h : Leads s bytes p t v) → length bytes ≤ length new → Agrees bytes new t (pointee_size s p.pointee p.length) → IsInOrder s new t p.length (order_of p) p.pointee
      → (k : Leads s new p t v) × (leaves_of_contents k.contents ≡ leaves_of_contents h.contents)
  leads_agree h room same o = let q = contents_agree h.contents same in (record { target = h.target; fits = omega (arith, h.fits); contents = q.0; ordered = o }, q.1)

  pub tour_agree : {pending : List ℕ} {seen last : Seen} {O : List Pointer} {C : List Region} (i : Tour s bytes pending seen O C last) → StaysOrdered new i → (start stop : ℕ) → Rising start C stop → length bytes ≤ length new → Agrees bytes new start (stop - start)
      → (j : Tour s new pending seen O C last) × (leaves_of_tour j ≡ leaves_of_tour i)
  tour_agree tour_end o start stop rising room same = (tour_end, refl)
  tour_agree (tour_unique {p = p} {t = t} {C = C} {D = D} e h i j) o start stop rising room same =
      let front = rising_front start C (region_of s p t) D stop rising in
      let back = rising_back start C (region_of s p t) D stop rising in
      let above = rising_le start C t front in
      let below = rising_le (t + pointee_size s p.pointee p.length) D stop back in
      let l = leads_agree h room (agrees_part bytes new t (pointee_size s p.pointee p.length) above (omega arith) same) o.0 in
      let k = tour_agree i o.1 start t front room (agrees_part bytes new start (t - start) (omega arith) (omega arith) same) in
      let m = tour_agree j o.2 (t + pointee_size s p.pointee p.length) stop back room (agrees_part bytes new (t + pointee_size s p.pointee p.length) (stop - (t + pointee_size s p.pointee p.length)) (omega arith) (omega arith) same) in
      (tour_unique e (l.0) (k.0) (m.0), ap₂ (λ a b. a ++ b) (k.1) (ap₂ (λ a b. a ++ b) (l.1) (m.1)))
  tour_agree (tour_new {p = p} {t = t} {C = C} {D = D} e none h i j) o start stop rising room same =
      let front = rising_front start C (region_of s p t) D stop rising in
      let back = rising_back start C (region_of s p t) D stop rising in
      let above = rising_le start C t front in
      let below = rising_le (t + pointee_size s p.pointee p.length) D stop back in
      let l = leads_agree h room (agrees_part bytes new t (pointee_size s p.pointee p.length) above (omega arith) same) o.0 in
      let k = tour_agree i o.1 start t front room (agrees_part bytes new start (t - start) (omega arith) (omega arith) same) in
      let m = tour_agree j o.2 (t + pointee_size s p.pointee p.length) stop back room (agrees_part bytes new (t + pointee_size s p.pointee p.length) (stop - (t + pointee_size s p.pointee p.length)) (omega arith) (omega arith) same) in
      (tour_new e none (l.0) (k.0) (m.0), ap₂ (λ a b. a ++ b) (k.1) (ap₂ (λ a b. a ++ b) (l.1) (m.1)))
  tour_agree (tour_again e t known free j) o start stop rising room same =
      let m = tour_agree j o start stop rising room same in (tour_again e t known free (m.0), m.1)
