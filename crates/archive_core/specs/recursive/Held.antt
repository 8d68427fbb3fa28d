-- What a recursive type is written by: a variant of any parts, and the region of values that were serialized before, with the vector that owns it.
use Rattle.std.specs.Prelude.{◌≡◌, ℕ, Bool, List, [], ◌∷◌, ◌++◌, Some, length, map, refl}
use Rattle.std.proofs.Common.{ap, subst, inl, inr, ◌∙◌}
use Rattle.std.proofs.lemmas.List.Elements.{Contains-append_cases}
use Rattle.archive_types.specs.Members.Keyed.{nothing_keyed, part_keyed}
use Rattle.archive_types.specs.Members.PlannedOwners.{none_planned, element_planned}
use Rattle.archive_types.specs.Runs.{HasRunPlan}
use Rattle.archive_check.specs.Entries.{ReadsBack}
use Rattle.archive_check.specs.Pooled.{Entries}
use Rattle.archive_check.specs.Layout.{Layout, layout}
use Rattle.archive_check.specs.Shape.{Name, Shape, Pointee, choice, named, definition, vec, run, Parts, Variants, variant_at}
use Rattle.archive_check.specs.Definitions.{Definitions, HasLayout, both, listed, Knows}
use Rattle.archive_check.specs.Members.VariantsLayout.{IsChoice}
use Rattle.archive_check.specs.Value.{Value, Values, case, list, hole, value}
use Rattle.archive_check.specs.Reads.{SchemaTable}
use Rattle.archive_check.specs.WriterState.{WriterState}
use Rattle.archive_check.specs.Words.Formats.{FormatOf}
use Rattle.archive_check.specs.declared.format.error.Error.{Error}
use Rattle.archive_check.specs.Denotes.{Naming}
use Rattle.archive_check.specs.declared.format.traits.Keys as Keys
use Rattle.archive_core.specs.fields.OwnChoices.{variant_definitions, knows_variant, variant_plan}
use Rattle.archive_types.specs.Causes.{IsRefused}
use Rattle.archive_types.specs.Parts.{HavePlan}
use Rattle.archive_types.specs.Members.PartsPlanned.{standing_plan}
use Rattle.archive_types.specs.Plans.{HasPlan, Serialized}
use Rattle.archive_types.specs.Runs.{each_keys, each_meaning, each_flat, SerializedRun}
use Rattle.archive_types.specs.Writing.{to_pointee, IsKeyed}
use Rattle.archive_types.specs.declared.traits.Archive as Archive
use Rattle.archive_write.specs.Written.{GoesOn}
use denote.Triple.Both.{Both}
use denote.Ref.{MutBor}

-- A name among several has the layout of what it stands for.
pub member_has_layout : (D : Definitions) (name : Name) (X : Shape) (L : Layout) → ((s : SchemaTable) → Knows s D → definition s.table name ≡ Some X) → ((s : SchemaTable) → Knows s D → layout s.layouts X ≡ L) → HasLayout D (named name) L
member_has_layout D name X L has h = record { solved = λ s k. k.laid_out.solves name X (has s k) ∙ h s k }

-- Who knows each of two definitions knows both.
pub knows_both : (s : SchemaTable) (D E : Definitions) → Knows s D → Knows s E → Knows s (both D E)
knows_both s D E k l = record {
  has = (k.has, l.has);
  finite = λ n X c. elim (Contains-append_cases (listed D) (listed E) (n, X) c) [ inl d ↦ k.finite n X d | inr d ↦ l.finite n X d ];
  laid_out = k.laid_out;
}

-- A variant is planned as its parts are.
pub variant_planned : (D : Definitions) (X : Shape) (name : Name) (E : Definitions) (vs : Variants) → IsChoice D X name E vs → (tag : ℕ) (ps : Parts) → variant_at vs tag ≡ Some ps → (F : Definitions) → variant_definitions E tag ≡ F
    → (ks : List Naming) (us : Values) → HavePlan F ps ks us → HasPlan D X ks (case tag us)
variant_planned D X name E vs is tag ps at F its ks us h a s names k n =
    let knows : Knows s F = subst (λ G. Knows s G) its (knows_variant s E tag (is.known s k)) in
    standing_plan s names (choice name vs) X (case tag us) a _ (is.stands s k) (variant_plan name vs tag ps at us s names a _ _ (λ ws C b x. tt) (h.plan a s names knows n))

-- From wherever what n elements own was serialized, up to here: now they stand at t, and a vector of them is serialized, too; and why it isn't.
pub record IsListed (D : Definitions) (X : Shape) (n : ℕ) (keys : List Naming) (vs flats : Values) (t : ℕ) (mid new : WriterState) : Type 0 where
  pub since : (old : WriterState) → GoesOn old mid → SerializedRun D X n keys vs flats old mid → Serialized D (vec X) keys (list vs) (hole (to_pointee t (run X) n)) old new

pub record IsNotListed (D : Definitions) (X : Shape) (n : ℕ) (keys : List Naming) (vs flats : Values) (mid new : WriterState) (e : Error) : Type 0 where
  pub since : (old : WriterState) → GoesOn old mid → SerializedRun D X n keys vs flats old mid → IsRefused D (vec X) keys (list vs) old new e

abbrev pub InnerListed : {T A R M C S : Type 0} → Archive.Ghosts T A R C M → FormatOf M → List T → List R → Keys.Ghosts S → Both (MutBor S) (MutBor S) → ℕ → Type 0
InnerListed a f xs rs k w t = IsListed f.definitions f.shape (length xs) (each_keys a.keys xs) (each_meaning a.meaning xs) (each_flat a.flat xs rs) t (k.state w.entry.now) (k.state w.exit.now)

abbrev pub ListingRefused : {T A R M C S : Type 0} → Archive.Ghosts T A R C M → FormatOf M → List T → List R → Keys.Ghosts S → Both (MutBor S) (MutBor S) → Error → Type 0
ListingRefused a f xs rs k w e = IsNotListed f.definitions f.shape (length xs) (each_keys a.keys xs) (each_meaning a.meaning xs) (each_flat a.flat xs rs) (k.state w.entry.now) (k.state w.exit.now) e

-- layers over values: what a vector in a layer means, where its elements were mapped before; and the laws of its elements, from those that induction gives

pub each_mapped : {A : Type 0} (h : A → Value) (xs : List A) → each_meaning (λ v. v) (map h xs) ≡ each_meaning h xs
each_mapped h [] = refl
each_mapped h (x ∷ xs) = ap (value (h x)) (each_mapped h xs)

pub each_mapped_keys : {A : Type 0} (h : A → List Naming) (xs : List A) → each_keys (λ v. v) (map h xs) ≡ each_keys h xs
each_mapped_keys h [] = refl
each_mapped_keys h (x ∷ xs) = ap (λ ks. h x ++ ks) (each_mapped_keys h xs)

module _ {A : Type 0} (k : A → List Naming) (m : A → Value) where
  pub held_keyed : (es : List ((x : A) × IsKeyed (k x) (m x))) → IsKeyed (each_keys k (map (λ e. e.0) es)) (list (each_meaning m (map (λ e. e.0) es)))
  held_keyed [] = nothing_keyed
  held_keyed (e ∷ es) = part_keyed e.1 (held_keyed es)

  pub held_planned : (D : Definitions) (X : Shape) (es : List ((x : A) × HasPlan D X (k x) (m x)))
      → HasRunPlan D X (length (map (λ (e : (x : A) × HasPlan D X (k x) (m x)). e.0) es)) (each_keys k (map (λ (e : (x : A) × HasPlan D X (k x) (m x)). e.0) es)) (each_meaning m (map (λ (e : (x : A) × HasPlan D X (k x) (m x)). e.0) es))
  held_planned D X [] = none_planned D X
  held_planned D X (e ∷ es) = element_planned D X _ (k e.0) _ (m e.0) _ e.1 (held_planned D X es)

-- What is known of a value by another name for it, for its keys and for what is read in its place: laws of a recursive type are told of one layer of it, by
-- the equations of its meaning.

pub keyed_as : {ks ls : List Naming} {v w : Value} → ks ≡ ls → v ≡ w → IsKeyed ls w → IsKeyed ks v
keyed_as e f h = rw (e, f) h

pub planned_as : {D : Definitions} {X : Shape} {ks ls : List Naming} {v w : Value} → ks ≡ ls → v ≡ w → HasPlan D X ls w → HasPlan D X ks v
planned_as e f h = rw (e, f) h

pub written_as : {D : Definitions} {X : Shape} {ks ls : List Naming} {v w f g : Value} {old new : WriterState} → ks ≡ ls → v ≡ w → f ≡ g → Serialized D X ls w g old new → Serialized D X ks v f old new
written_as e f i h = rw (e, f, i) h

pub refused_as : {D : Definitions} {X : Shape} {ks ls : List Naming} {v w : Value} {old new : WriterState} {e : Error} → ks ≡ ls → v ≡ w → IsRefused D X ls w old new e → IsRefused D X ks v old new e
refused_as e f h = rw (e, f) h

pub read_as : {keeps : Bool} {D : Definitions} {bytes : List ℕ} {q n : ℕ} {P : Pointee} {old new : Entries} {ks ls : List Naming} {v w : Value} → ks ≡ ls → v ≡ w → ReadsBack keeps D bytes q P n old new w ls → ReadsBack keeps D bytes q P n old new v ks
read_as e f h = rw (e, f) h
