-- What a shared pointer of a part of an archive leads to is known to the archive's map.
use Rattle.std.proofs.Common.{◌≡◌, ℕ, pos, List, Some, Contains, ap, sym, ◌∙◌}
use Rattle.std.specs.FinMap.{get}
use Rattle.std.proofs.lemmas.List.Elements.{All-contains}
use Rattle.archive_check.specs.Shape.{Flavor, Shape, Pointee}
use Rattle.archive_check.specs.Value.{Pointer, Value, pointers}
use Rattle.archive_check.specs.Reads.{SchemaTable}
use Rattle.archive_check.specs.Tour.{entry, Contents, Accepted}
use Rattle.archive_check.specs.Denotes.{Meaning, Fills, Denotes}
use Rattle.archive_check.specs.Leaves.{regions_of}
use Rattle.archive_check.specs.Viewed.{Lies}
use Rattle.archive_check.specs.Reached.{Reached}
use Rattle.archive_check.specs.Entries.{IsMet}
use Rattle.archive_check.proofs.Meanings.ReachedParts.{part_of_reads, pointer_reached}
use Rattle.archive_check.proofs.Tours.ReadingUnique.{contents_one_value, pos_one}
use Rattle.archive_check.proofs.Meanings.MeaningUnique.{fills_one, tours_one}
use Rattle.archive_check.proofs.Meanings.NamesReached.{says_at}
use Rattle.archive_check.proofs.Meanings.MeaningExists.{has_meaning}
use Rattle.archive_check.proofs.Tours.Seen.{same_some}
use Rattle.archive_check.proofs.Viewing.Viewed.{lies_reached, reached_lies}
use Rattle.archive_check.proofs.Meanings.CalmArchives.{MetIn, AllMet, accepted_met}

module _ (s : SchemaTable) (bytes : List ℕ) where
  pub shared_known : {q n t : ℕ} {P : Pointee} {v u w : Value} {p : Pointer} {flavor : Flavor} {m : Meaning} (l : Lies s bytes q P n) → Denotes s bytes l.root l.shape m → Contents s bytes q P n v
      → Contains (pointers v) p → p.sharing ≡ Some flavor → p.target ≡ pos t → Contents s bytes t p.pointee p.length u → Fills s bytes u w → get m.shared t ≡ Some (entry flavor p, w)
  shared_known {t = t} {v = v} {u = u} {w = w} {p = p} {flavor = flavor} {m = m} l d c i e there h f =
      let (r, inside, part) = l.part in
      let (x, k, met) = All-contains (AllMet s bytes l.accepted.seen) (regions_of l.accepted) r (accepted_met s bytes l.accepted) inside in
      let (y, j, sub) = part_of_reads s bytes part k in
      let same : v ≡ y = contents_one_value c j in
      let is = All-contains (MetIn l.accepted.seen) (pointers x) p met (sub p (rw same at i)) in
      let seen : get d.accepted.seen t ≡ Some (entry flavor p) = rw ((tours_one s bytes l.accepted d.accepted).1) (is.met t flavor e there) in
      let k = says_at s bytes m.shared t (entry flavor p) (get d.accepted.seen t) (d.shared t) seen in
      let one : k.read ≡ u = contents_one_value k.contents h in
      let filled : k.filled ≡ w = fills_one s bytes (rw one at k.fills) f in
      k.known ∙ ap (λ z. Some (entry flavor p, z)) filled

  -- so is what a shared pointer leads to that is met anywhere in it
  known_met : {root t : ℕ} {X : Shape} {p : Pointer} {flavor : Flavor} {m : Meaning} → Denotes s bytes root X m → IsMet s bytes root X p → p.sharing ≡ Some flavor → p.target ≡ pos t → (w : Value) × (get m.shared t ≡ Some (entry flavor p, w))
  unfolding reached_lies
  known_met {root = root} {t = t} {X = X} {p = p} d met e there =
      let (u, at, x, i) = pointer_reached s bytes met.reached p met.has in
      let same : u ≡ t = pos_one (sym at ∙ there) in
      let j : Reached s bytes root X t p.pointee p.length x = rw same at i in
      (x, shared_known (reached_lies s bytes met.reached) d met.reached.reads met.has e there j.reads j.filled)

  -- two of them that lead to one position say the same of it
  pub met_agree : {root t : ℕ} {X : Shape} {p o : Pointer} {f g : Flavor} → Accepted s bytes root X → IsMet s bytes root X p → p.sharing ≡ Some f → p.target ≡ pos t → IsMet s bytes root X o → o.sharing ≡ Some g → o.target ≡ pos t
      → (o.pointee ≡ p.pointee) × (o.length ≡ p.length)
  met_agree {p = p} {o = o} {f = f} {g = g} a met e there also h at =
      let (m, d) = has_meaning s bytes a in
      let x = known_met d met e there in
      let y = known_met d also h at in
      let same : entry g o ≡ entry f p = ap (λ z. z.0) (same_some (sym y.1 ∙ x.1)) in
      (ap (λ z. z.pointee) same, ap (λ z. z.length) same)

  -- and one that is read there says the same as one that is met
  pub shared_agree : {q n t : ℕ} {P : Pointee} {v : Value} {p o : Pointer} {f g : Flavor} (l : Lies s bytes q P n) → Contents s bytes q P n v → Contains (pointers v) p → p.sharing ≡ Some f → p.target ≡ pos t
      → IsMet s bytes l.root l.shape o → o.sharing ≡ Some g → o.target ≡ pos t → (o.pointee ≡ p.pointee) × (o.length ≡ p.length)
  shared_agree {v = v} {p = p} l c i e there also h at =
      let (w, r) = lies_reached s bytes l in
      let same : v ≡ r.value = contents_one_value c r.reads in
      met_agree l.accepted (record { at = _; pointee = _; length = _; filled = w; reached = r; has = rw same at i }) e there also h at
