-- Fields that are read back piece by piece: together they are read back as parts one after another.
use Rattle.std.proofs.Common.{◌≡◌, inl, inr, ℕ, zero, suc, ◌+◌, ◌≤◌, List, [], ◌++◌, Bool, true, refl, sym, subst, arith, append_assoc}
use Rattle.std.proofs.Math.Logic.{∥∥₁_map, ∥∥₁_elim}
use Rattle.std.specs.Coded.{le_prop}
use Rattle.archive_check.specs.declared.format.error.Error.{Error}
use Rattle.archive_check.specs.Shape.{Shape, Pointee, Parts, no_part, part}
use Rattle.archive_check.specs.Layout.{Layout, up, size_of, align_of, parts_end}
use Rattle.archive_check.specs.Definitions.{Definitions, no_definition, both, Knows}
use Rattle.archive_check.specs.Denotes.{Naming}
use Rattle.archive_check.specs.Members.PartsLayout.{joined, knows_left, knows_right}
use Rattle.archive_check.specs.Pooled.{Entries}
use Rattle.archive_check.specs.Reads.{SchemaTable}
use Rattle.archive_check.specs.Value.{Values, no_value, value}
use Rattle.archive_check.specs.Viewed.{Viewed}
use Rattle.archive_check.specs.Within.{IsPart, first_part, later_part}
use Rattle.archive_types.specs.PartsReading.{PartsViewed, PartsReadBack, no_part_read_back, part_read_back, PartsCyclic, first_cyclic, later_cyclic, RefusesParts}
use Rattle.archive_types.proofs.Writing.Appending.{size_is, align_is}
use Rattle.archive_core.specs.fields.Plain.{are_none, knows_plain}

-- the first n parts, and those behind them
abbrev pub first_parts : ℕ → Parts → Parts
first_parts zero ps = no_part
first_parts (suc n) no_part = no_part
first_parts (suc n) (part X ps) = part X (first_parts n ps)

abbrev pub drop_parts : ℕ → Parts → Parts
drop_parts zero ps = ps
drop_parts (suc n) no_part = no_part
drop_parts (suc n) (part X ps) = drop_parts n ps

-- the definitions of parts, and those of others behind them
abbrev pub definitions_behind : Parts → Definitions → Definitions → Definitions
definitions_behind no_part D F = F
definitions_behind (part X ps) (both D E) F = both D (definitions_behind ps E F)
definitions_behind (part X ps) D F = D

-- values, and others behind them
abbrev pub also : Values → Values → Values
also no_value us = us
also (value v vs) us = value v (also vs us)

-- parts that are laid out from an offset on end at another one
abbrev pub EndsAt : ℕ → Parts → ℕ → Type 0
EndsAt at ps end = (s : SchemaTable) → Knows s no_definition → parts_end s.layouts at ps ≡ end

-- a piece of what is viewed

more_parts : {s : SchemaTable} {X : Shape} {q at r : ℕ} {Y : Shape} {ps qs : Parts} → ((at r : ℕ) (Y : Shape) → IsPart s q at ps r Y → IsPart s q at qs r Y) → IsPart s q at (part X ps) r Y → IsPart s q at (part X qs) r Y
more_parts f first_part = first_part
more_parts f (later_part h) = later_part (f _ _ _ h)

part_of_first : {s : SchemaTable} {q : ℕ} (n : ℕ) (ps : Parts) (at r : ℕ) (Y : Shape) → IsPart s q at (first_parts n ps) r Y → IsPart s q at ps r Y
part_of_first zero ps at r Y h = elim h [ ]
part_of_first (suc n) no_part at r Y h = elim h [ ]
part_of_first (suc n) (part X ps) at r Y h = more_parts (part_of_first n ps) h

part_of_later : {s : SchemaTable} {q r : ℕ} {Y : Shape} (n : ℕ) (ps : Parts) (at : ℕ) → IsPart s q (parts_end s.layouts at (first_parts n ps)) (drop_parts n ps) r Y → IsPart s q at ps r Y
part_of_later zero ps at h = h
part_of_later (suc n) no_part at h = h
part_of_later {s = s} (suc n) (part X ps) at h = later_part (part_of_later n ps (up at (align_of s.layouts X) + size_of s.layouts X) h)

pub piece_viewed : {bytes : List ℕ} {q at end : ℕ} {ps : Parts} (n m : ℕ) (E : Definitions) → are_none E ≡ true → EndsAt at (first_parts n ps) end → PartsViewed no_definition bytes q at ps
    → PartsViewed E bytes q end (first_parts m (drop_parts n ps))
piece_viewed {at = at} {ps = ps} n m E plain ends v = ∥∥₁_map v (λ (s, k, all). (s, knows_plain E plain s k, λ r Y i. all r Y (part_of_later n ps at (rw (ends s k) (part_of_first m (drop_parts n ps) _ r Y i)))))

-- where parts end that were read back

module _ {keeps : Bool} {bytes : List ℕ} {q : ℕ} where
  abbrev pub read_end : {D : Definitions} {ps : Parts} {at : ℕ} {old new : Entries} {vs : Values} {ks : List Naming} → PartsReadBack keeps bytes q D ps at old new vs ks → ℕ
  read_end (no_part_read_back {at = at}) = at
  read_end (part_read_back laid h more) = read_end more

  end_is : (s : SchemaTable) {D : Definitions} {ps : Parts} {at : ℕ} {old new : Entries} {vs : Values} {ks : List Naming} (h : PartsReadBack keeps bytes q D ps at old new vs ks) → Knows s D → parts_end s.layouts at ps ≡ read_end h
  end_is s no_part_read_back k = refl
  end_is s (part_read_back {D = D} {E = E} laid h more) k = rw (align_is laid s (knows_left s D E k), size_is laid s (knows_left s D E k)) (end_is s more (knows_right s D E k))

  ends_there : {P : Pointee} {n : ℕ} {D : Definitions} {ps : Parts} {at end : ℕ} {old new : Entries} {vs : Values} {ks : List Naming} → Viewed no_definition bytes q P n → are_none D ≡ true → EndsAt at ps end
      → (h : PartsReadBack keeps bytes q D ps at old new vs ks) → read_end h ≡ end
  ends_there {D = D} {end = end} v plain ends h =
      let low : read_end h ≤ end = ∥∥₁_elim v le_prop (λ (s, k, l). omega (arith, end_is s h (knows_plain D plain s k), ends s k)) in
      let high : end ≤ read_end h = ∥∥₁_elim v le_prop (λ (s, k, l). omega (arith, end_is s h (knows_plain D plain s k), ends s k)) in
      omega (arith, low, high)

  behind_read : {D F : Definitions} {ps qs : Parts} {at : ℕ} {old mid new : Entries} {vs us : Values} {ks ls : List Naming} (h : PartsReadBack keeps bytes q D ps at old mid vs ks) → PartsReadBack keeps bytes q F qs (read_end h) mid new us ls
      → PartsReadBack keeps bytes q (definitions_behind ps D F) (joined ps qs) at old new (also vs us) (ks ++ ls)
  behind_read no_part_read_back r = r
  behind_read {new = new} {ls = ls} (part_read_back {ks = ks} {ls = ms} laid h more) r = rw (append_assoc ks ms ls) (part_read_back laid h (behind_read more r))

  behind_cyclic : {D F : Definitions} {ps qs : Parts} {at : ℕ} {old mid : Entries} {vs : Values} {ks : List Naming} (h : PartsReadBack keeps bytes q D ps at old mid vs ks) → PartsCyclic bytes q F qs (read_end h) mid
      → PartsCyclic bytes q (definitions_behind ps D F) (joined ps qs) at old
  behind_cyclic no_part_read_back c = c
  behind_cyclic (part_read_back laid h more) c = later_cyclic laid h.kept (behind_cyclic more c)

  -- a piece was read back, and what is behind it
  module _ {P : Pointee} {n : ℕ} {D F : Definitions} {ps qs : Parts} {at end : ℕ} {old mid : Entries} {vs : Values} {ks : List Naming} (v : Viewed no_definition bytes q P n) (plain : are_none D ≡ true) (ends : EndsAt at ps end)
      (h : PartsReadBack keeps bytes q D ps at old mid vs ks) where
    pub pieces_read : {new : Entries} {us : Values} {ls : List Naming} → PartsReadBack keeps bytes q F qs end mid new us ls → PartsReadBack keeps bytes q (definitions_behind ps D F) (joined ps qs) at old new (also vs us) (ks ++ ls)
    pieces_read {new = new} {us = us} {ls = ls} r = behind_read h (rw (ends_there v plain ends h) r)

    pub piece_refused_later : {e : Error} → RefusesParts F bytes q qs end mid e → RefusesParts (definitions_behind ps D F) bytes q (joined ps qs) at old e
    piece_refused_later (inl memory) = inl memory
    piece_refused_later (inr c) = inr (c.0, behind_cyclic h (rw (ends_there v plain ends h) c.1))

first_cyclic_among : {bytes : List ℕ} {q : ℕ} {D : Definitions} {ps : Parts} {at : ℕ} {old : Entries} (F : Definitions) (qs : Parts) → PartsCyclic bytes q D ps at old → PartsCyclic bytes q (definitions_behind ps D F) (joined ps qs) at old
first_cyclic_among F qs (first_cyclic laid c) = first_cyclic laid c
first_cyclic_among F qs (later_cyclic laid kept c) = later_cyclic laid kept (first_cyclic_among F qs c)

-- a piece was refused, whatever is behind it
pub piece_refused : {bytes : List ℕ} {q : ℕ} {D : Definitions} {ps : Parts} {at : ℕ} {old : Entries} {e : Error} (F : Definitions) (qs : Parts) → RefusesParts D bytes q ps at old e
    → RefusesParts (definitions_behind ps D F) bytes q (joined ps qs) at old e
piece_refused F qs (inl memory) = inl memory
piece_refused F qs (inr c) = inr (c.0, first_cyclic_among F qs c.1)

-- with the same keys, otherwise put together
pub with_keys : {keeps : Bool} {bytes : List ℕ} {q : ℕ} {D : Definitions} {ps : Parts} {at : ℕ} {old new : Entries} {vs : Values} {ks ls : List Naming} → ks ≡ ls → PartsReadBack keeps bytes q D ps at old new vs ks → PartsReadBack keeps bytes q D ps at old new vs ls
with_keys {keeps = keeps} {bytes = bytes} {q = q} {D = D} {ps = ps} {at = at} {old = old} {new = new} {vs = vs} same h = subst (λ ks. PartsReadBack keeps bytes q D ps at old new vs ks) same h
