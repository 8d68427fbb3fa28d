-- The parts of a record, as a type names them: where each lies, and what they take together, in each schema that knows their definitions.
use Rattle.std.proofs.Common.{◌≡◌, ℕ, zero, suc, ◌+◌, ◌≤◌, max, Option, Some, None, refl, ap, subst, arith, inl, ⊎_elim}
use Rattle.std.proofs.lemmas.Bool.{cases_lt}
use Rattle.std.proofs.lemmas.List.Elements.{Contains-append_left, Contains-append_right}
use Rattle.archive_check.specs.Shape.{Name, Shape, parts, named, Parts, no_part, part, definition}
use Rattle.archive_check.specs.Layout.{Layout, Layouts, up, size_of, align_of, parts_align, parts_end}
use Rattle.archive_check.specs.Reads.{SchemaTable, LaidOut}
use Rattle.archive_check.specs.Within.{IsPart, first_part, later_part}
use Rattle.archive_check.specs.Definitions.{Definitions, no_definition, defines, both, listed, Knows, HasLayout, IsAlign}
use Rattle.archive_check.specs.SelfCheck.Regions.{align_some}

-- The part with this index.
abbrev pub part_at : Parts → ℕ → Option Shape
part_at no_part i = None
part_at (part X ps) zero = Some X
part_at (part X ps) (suc i) = part_at ps i

-- And the definitions that it brings, of those of the parts.
abbrev pub definitions_at : Definitions → ℕ → Definitions
definitions_at (both D E) zero = D
definitions_at (both D E) (suc i) = definitions_at E i
definitions_at _ i = no_definition

-- Parts, and others behind them.
abbrev pub joined : Parts → Parts → Parts
joined no_part qs = qs
joined (part X ps) qs = part X (joined ps qs)

-- The first offset, or one of those that come later.
abbrev pub first_or : ℕ → (ℕ → ℕ) → ℕ → ℕ
first_or first later zero = first
first_or first later (suc i) = later i

-- Where the part with this index begins, laid out one behind another from an offset on.
abbrev pub offset_of_part : Layouts → ℕ → Parts → ℕ → ℕ
offset_of_part names at no_part i = at
offset_of_part names at (part X ps) zero = up at (align_of names X)
offset_of_part names at (part X ps) (suc i) = offset_of_part names (up at (align_of names X) + size_of names X) ps i

-- Of what is laid out from an offset on: its greatest alignment, where it ends, and where each part begins.
pub record PartsLaidOut (D : Definitions) (ps : Parts) (align : ℕ) (end : ℕ → ℕ) (begin : ℕ → ℕ → ℕ) : Type 0 where
  pub aligned : (s : SchemaTable) → Knows s D → parts_align s.layouts ps ≡ align
  pub ends : (s : SchemaTable) → Knows s D → (n : ℕ) → parts_end s.layouts n ps ≡ end n
  pub begins : (s : SchemaTable) → Knows s D → (p n i : ℕ) (Y : Shape) → part_at ps i ≡ Some Y → IsPart s p n ps (p + begin n i) Y
  pub offsets : (s : SchemaTable) → Knows s D → (n i : ℕ) → offset_of_part s.layouts n ps i ≡ begin n i

-- The sizes of the parts.
abbrev pub HaveSizes : Definitions → Parts → (ℕ → ℕ) → Type 0
HaveSizes D ps sizes = (s : SchemaTable) → Knows s D → (i : ℕ) (Y : Shape) → part_at ps i ≡ Some Y → size_of s.layouts Y ≡ sizes i

-- Under the schema, X is a Y, or a name that stands for it.
pub data StandsFor (s : SchemaTable) (Y : Shape) : Shape → Type 0 where
  for_itself : StandsFor s Y Y
  by_name : {name : Name} → definition s.table name ≡ Some Y → StandsFor s Y (named name)

-- an X with the definitions D is a record of these parts, whose definitions E are known where its own are.
pub record IsRecord (D : Definitions) (X : Shape) (E : Definitions) (ps : Parts) : Type 0 where
  pub stands : (s : SchemaTable) → Knows s D → StandsFor s (parts ps) X
  pub known : (s : SchemaTable) → Knows s D → Knows s E

-- Who knows both knows each.
pub knows_left : (s : SchemaTable) (D E : Definitions) → Knows s (both D E) → Knows s D
knows_left s D E k = record { has = k.has.0; finite = λ n X c. k.finite n X (Contains-append_left (listed D) (listed E) (n, X) c); laid_out = k.laid_out }

pub knows_right : (s : SchemaTable) (D E : Definitions) → Knows s (both D E) → Knows s E
knows_right s D E k = record { has = k.has.1; finite = λ n X c. k.finite n X (Contains-append_right (listed D) (listed E) (n, X) c); laid_out = k.laid_out }

pub knows_none : (s : SchemaTable) → LaidOut s → Knows s no_definition
knows_none s laid = record { has = tt; finite = λ n X c. absurd (omega (arith, c.1)); laid_out = laid }

-- Who knows those of all parts knows those of each.
pub knows_at : (s : SchemaTable) (D : Definitions) (i : ℕ) → Knows s D → Knows s (definitions_at D i)
knows_at s (both D E) zero k = knows_left s D E k
knows_at s (both D E) (suc i) k = knows_at s E i (knows_right s D E k)
knows_at s no_definition i k = knows_none s k.laid_out
knows_at s (defines n X) i k = knows_none s k.laid_out

-- Parts by themselves.
pub is_record : (D : Definitions) (ps : Parts) → IsRecord D (parts ps) D ps
is_record D ps = record { stands = λ s k. for_itself; known = λ s k. k }

pub no_part_laid_out : PartsLaidOut no_definition no_part 1 (λ n. n) (λ n i. n)
no_part_laid_out = record { aligned = λ s k. refl; ends = λ s k n. refl; begins = λ s k p n i Y none. absurd (cc none); offsets = λ s k n i. refl }

module _ (D E : Definitions) (X : Shape) (L : Layout) (laid : HasLayout D X L) (ps : Parts) (a : ℕ) (end : ℕ → ℕ) (begin : ℕ → ℕ → ℕ) (others : PartsLaidOut E ps a end begin) where
  part_size : (s : SchemaTable) → Knows s (both D E) → size_of s.layouts X ≡ L.size
  part_size s k = ap (λ l. l.size) (laid.solved s (knows_left s D E k))

  part_align : (s : SchemaTable) → Knows s (both D E) → align_of s.layouts X ≡ L.align
  part_align s k = ap (λ l. l.align) (laid.solved s (knows_left s D E k))

  part_begins : (s : SchemaTable) → Knows s (both D E) → (p n i : ℕ) (Y : Shape) → part_at (part X ps) i ≡ Some Y
      → IsPart s p n (part X ps) (p + first_or (up n L.align) (begin (up n L.align + L.size)) i) Y
  part_begins s k p n zero Y e =
      let same : X ≡ Y = cc e in
      let first : IsPart s p n (part X ps) (p + up n (align_of s.layouts X)) X = first_part in
      subst (λ Z. IsPart s p n (part X ps) (p + up n L.align) Z) same (rw (part_align s k) at first)
  part_begins s k p n (suc i) Y e =
      later_part (rw (part_align s k, part_size s k) (others.begins s (knows_right s D E k) p (up n L.align + L.size) i Y e))

  part_offsets : (s : SchemaTable) → Knows s (both D E) → (n i : ℕ) → offset_of_part s.layouts n (part X ps) i ≡ first_or (up n L.align) (begin (up n L.align + L.size)) i
  part_offsets s k n zero = ap (up n) (part_align s k)
  part_offsets s k n (suc i) = rw (part_align s k, part_size s k) (others.offsets s (knows_right s D E k) (up n L.align + L.size) i)

  -- One part, and others behind it.
  pub part_laid_out : PartsLaidOut (both D E) (part X ps) (max L.align a) (λ n. end (up n L.align + L.size)) (λ n. first_or (up n L.align) (begin (up n L.align + L.size)))
  part_laid_out = record {
    aligned = λ s k. rw (part_align s k, others.aligned s (knows_right s D E k)) refl;
    ends = λ s k n. rw (part_align s k, part_size s k) (others.ends s (knows_right s D E k) (up n L.align + L.size));
    begins = part_begins;
    offsets = part_offsets;
  }

pub no_part_sized : HaveSizes no_definition no_part (λ i. 0)
no_part_sized s k i Y none = absurd (cc none)

-- One part, and others behind it.
pub part_sized : (D E : Definitions) (X : Shape) (L : Layout) → HasLayout D X L → (ps : Parts) (sizes : ℕ → ℕ) → HaveSizes E ps sizes
    → HaveSizes (both D E) (part X ps) (first_or L.size sizes)
part_sized D E X L laid ps sizes others s k zero Y e =
    let same : X ≡ Y = cc e in
    subst (λ Z. size_of s.layouts Z ≡ L.size) same (ap (λ l. l.size) (laid.solved s (knows_left s D E k)))
part_sized D E X L laid ps sizes others s k (suc i) Y e = others s (knows_right s D E k) i Y e

-- The greater of two alignments.
pub greater_align : (a b : ℕ) → IsAlign a → IsAlign b → IsAlign (max a b)
greater_align a b h k = ⊎_elim
    (λ lt. let e : max a b ≡ b = omega (arith, lt) in rw e k)
    (λ ge. let e : max a b ≡ a = omega (arith, ge) in rw e h)
    (cases_lt a b)

pub one_align : IsAlign 1
one_align = inl refl

pub begins_at : (n i : ℕ) → n ≤ n
begins_at n i = omega arith

-- A record's layout, by its parts.
pub record_has_layout : (D : Definitions) (ps : Parts) (a : ℕ) (end : ℕ → ℕ) (begin : ℕ → ℕ → ℕ) → PartsLaidOut D ps a end begin
    → HasLayout D (parts ps) (record { size = up (end 0) a; align = a })
record_has_layout D ps a end begin h = record { solved = λ s k. rw (h.aligned s k, h.ends s k 0) refl }

-- an offset doesn't lie before that from which the parts are laid out.
pub begins_over : (n a z : ℕ) → IsAlign a → (later : ℕ → ℕ → ℕ) → ((m j : ℕ) → m ≤ later m j) → (i : ℕ) → n ≤ first_or (up n a) (later (up n a + z)) i
begins_over n a z is later rises zero = omega (arith, align_some a is)
begins_over n a z is later rises (suc i) = omega (arith, align_some a is, rises (up n a + z) i)

pub within_at : (n i : ℕ) → n + 0 ≤ n
within_at n i = omega arith

-- The first part, and those behind it, end where the last does at most.
pub within_over : (o z : ℕ) → (later : ℕ → ℕ → ℕ) → (sizes : ℕ → ℕ) → (end : ℕ → ℕ) → ((m : ℕ) → m ≤ end m) → ((m j : ℕ) → later m j + sizes j ≤ end m) → (i : ℕ)
    → first_or o (later (o + z)) i + first_or z sizes i ≤ end (o + z)
within_over o z later sizes end rises within zero = rises (o + z)
within_over o z later sizes end rises within (suc i) = within (o + z) i

-- A size that is rounded up holds what ends there.
pub holds_parts : (end a : ℕ) → IsAlign a → end ≤ up end a
holds_parts end a is = omega (arith, align_some a is)
