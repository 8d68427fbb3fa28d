-- Archives of a type: which schemas know its definitions, what a refusal excludes, and what is read back at the root.
use Rattle.std.proofs.Common.{◌≡◌, ◌≢◌, inl, inr, ⊎_elim, ℕ, ℤ, ◌<◌, ◌^◌, List, [], length, Some, Option, Result, Ok, Err, IsErrAnd, Contains, arith, refl, sym, ap, subst, ◌∙◌, Bool}
use Rattle.std.proofs.Math.Logic.{∥∥₁_elim, ∥∥₁_map, ∥∥₁_prop}
use Rattle.std.specs.Ordering.{nat_cmp}
use Rattle.std.specs.FinMap.{FinMap, get}
use Rattle.std.proofs.lemmas.List.Elements.{Contains-append_left, Contains-append_right, Contains-append_cases}
use Rattle.archive_check.specs.declared.format.error.Error.{Error}
use Rattle.archive_check.specs.Shape.{Name, Shape, one, Table, definition}
use Rattle.archive_check.specs.Value.{Value, number}
use Rattle.archive_check.specs.Reads.{SchemaTable, LaidOut}
use Rattle.archive_check.specs.Defined.{Reaches, reaches, reaches_through, HeldIn, held, held_through, mentions_held, WellFormed}
use Rattle.archive_check.specs.Definitions.{Definitions, no_definition, defines, both, listed, NoOthers, Has, Knows}
use Rattle.archive_check.specs.context.Ranges.{RangeState, whole}
use Rattle.archive_check.specs.context.PositionStates.{Positions, nothing_met}
use Rattle.archive_check.specs.context.FreshContexts.{IsWhole}
use Rattle.archive_check.specs.Archives.{ExplainsNoSchema, IsArchiveWithin, IsArchive, IsValueOf, ReadsWhole, Answers, IsFaulty, IsRefusal, ExplainsNoArchive}
use Rattle.archive_check.specs.Tour.{Entry}
use Rattle.archive_check.specs.Denotes.{Meaning, Naming, Denotes}
use Rattle.archive_check.specs.Reached.{Names, LeadsTo, leads_at_once, leads_through}
use Rattle.archive_check.specs.Pooled.{Entries}
use Rattle.archive_check.specs.Entries.{NoEntries, AreNamedByPosition, AreShared, AreRight, IsCyclic, ReadsBack}
use Rattle.archive_check.specs.Viewed.{Viewed, Says}
use Rattle.archive_check.proofs.Names.Rounds.{rounds}
use Rattle.archive_check.proofs.Checks.AcceptedWalks.{walks}
use Rattle.archive_check.proofs.Checks.FaultyNotWalked.{root_no_walk}
use Rattle.archive_check.proofs.Names.PositiveAlignments.{rounds_pos}
use Rattle.archive_check.proofs.Names.LaidOutNames.{names_of, rounds_solve_reached}
use Rattle.archive_check.proofs.Names.WellFormed.{found_stands, involved_reached}
use Rattle.archive_check.proofs.Elements.{contains_cases, contains_first}
use Rattle.archive_check.proofs.Viewing.Viewed.{root_lies, root_says}
use Rattle.archive_check.proofs.Tours.Seen.{same_some}
use Rattle.archive_check.proofs.Meanings.NamesReached.{names_reached}

-- a schema that has the definitions has each that their list shows
pub has_each : (s : SchemaTable) (D : Definitions) → Has s D → (name : Name) (Y : Shape) → Contains (listed D) (name, Y) → definition s.table name ≡ Some Y
has_each s no_definition h name Y c = absurd (omega (arith, c.1))
has_each s (defines n X) h name Y c = ⊎_elim (λ e. let named : n ≡ name = ap (λ d. d.0) e in let same : X ≡ Y = ap (λ d. d.1) e in cc (h, named, same)) (λ d. absurd (omega (arith, d.1))) (contains_cases (n, X) [] (name, Y) c)
has_each s (both D E) (h, k) name Y c = ⊎_elim (has_each s D h name Y) (has_each s E k name Y) (Contains-append_cases (listed D) (listed E) (name, Y) c)

-- and one that has each has them
each_has : (s : SchemaTable) (D : Definitions) → ((name : Name) (Y : Shape) → Contains (listed D) (name, Y) → definition s.table name ≡ Some Y) → Has s D
each_has s no_definition h = tt
each_has s (defines n X) h = h n X (contains_first [] (n, X))
each_has s (both D E) h = (
  each_has s D (λ name Y c. h name Y (Contains-append_left (listed D) (listed E) (name, Y) c)),
  each_has s E (λ name Y c. h name Y (Contains-append_right (listed D) (listed E) (name, Y) c)),
)

-- what a name's definition reaches, whoever reaches the name reaches too
reached_on : {table : Table} {n m : Name} {X Y : Shape} → Reaches table n X → definition table n ≡ Some Y → Reaches table m Y → Reaches table m X
reached_on (reaches h) d i = reaches_through h d i
reached_on (reaches_through h e r) d i = reaches_through h e (reached_on r d i)

-- Where a shape is well formed, and no definition is brought that it doesn't reach, a schema knows them.
module _ (D : Definitions) (X : Shape) (well : WellFormed (listed D) X) (no_others : NoOthers D X) where
  abbrev own : SchemaTable
  own = record { table = listed D; layouts = rounds (listed D) (length (names_of (listed D))) }

  reached_each : (name : Name) (Y : Shape) → Contains (listed D) (name, Y) → Reaches (listed D) name X
  reached_each name Y c = involved_reached (listed D) X well.defined name (no_others name Y c)

  own_each : (name : Name) (Y : Shape) → Contains (listed D) (name, Y) → definition (listed D) name ≡ Some Y
  own_each name Y c = let (Z, e, only) = well.defined name (reached_each name Y c) in e ∙ ap Some (sym (only Y c))

  -- what is held under a schema that has them is held under them alone
  own_held : (s : SchemaTable) → Has s D → {name : Name} {Y : Shape} → ((n : Name) → Reaches (listed D) n Y → Reaches (listed D) n X) → HeldIn s.table name Y → HeldIn (listed D) name Y
  own_held s has sub (held h) = held h
  own_held s has sub (held_through {Y = Z} {n = n} h e i) =
      let (W, d, only) = well.defined n (sub n (reaches (mentions_held h))) in
      let same : W ≡ Z = cc (has_each s D has n W (found_stands (listed D) n W d), e) in
      let d' : definition (listed D) n ≡ Some Z = d ∙ ap Some same in
      held_through h d' (own_held s has (λ m r. sub m (reaches_through (mentions_held h) d' r)) i)

  -- each schema that has them knows them
  pub has_knows : (s : SchemaTable) → Has s D → LaidOut s → Knows s D
  has_knows s has laid = record {
    has = has;
    finite = λ name Y c h.
        let d = own_each name Y c in
        let r = reached_each name Y c in
        well.finite name Y r d (own_held s has (λ m i. reached_on r d i) h);
    laid_out = laid;
  }

  pub some_knows : (s : SchemaTable) × Knows s D
  some_knows = (
    own,
    has_knows own (each_has own D own_each) (record {
      solves = λ name Y e. rounds_solve_reached (listed D) X well name Y (reached_each name Y (found_stands (listed D) name Y e)) e;
      aligned = rounds_pos (listed D) (length (names_of (listed D)));
    }),
  )

-- a context of a whole buffer that met nothing
pub is_whole : (s : RangeState) (met : Positions) (bytes : List ℕ) (depth : Option ℕ) → depth ≢ Some 0 → ((d : ℕ) → depth ≡ Some d → d < 18446744073709551616) → s ≡ whole (length bytes) depth → met ≡ nothing_met → IsWhole s met bytes
is_whole s met bytes depth levels few e f = rw (e, f) (record { fresh = record { nothing = λ p. refl; levels = record { levels = levels; few = few } }; start = refl; end = refl })

-- the root of an archive is a view
pub archive_viewed : (D : Definitions) (bytes : List ℕ) (limit : Option ℕ) (root : ℕ) (X : Shape) → IsArchiveWithin D bytes limit root X → Viewed D bytes root (one X) 0
archive_viewed D bytes limit root X a = ∥∥₁_elim a.known ∥∥₁_prop (λ (s, k). ∥∥₁_map (a.accepted s k) (λ b. (s, k, root_lies s bytes b.0)))

-- what is refused for another cause than memory is no archive
faulty_no_archive : (D : Definitions) (bytes : List ℕ) (limit : Option ℕ) (root : ℕ) (X : Shape) (e : Error) → length bytes < 2 ^ 64 → IsFaulty D bytes limit root X e → IsArchiveWithin D bytes limit root X → ⊥
faulty_no_archive D bytes limit root X e small f a = ∥∥₁_elim a.known (λ x y. absurd x) (λ (s, k). ∥∥₁_elim (f.trips s k) (λ x y. absurd x) (λ t. ∥∥₁_elim (a.accepted s k) (λ x y. absurd x) (λ b. root_no_walk s bytes small t (walks s bytes limit root X b))))

pub refusal_no_archive : (D : Definitions) (bytes : List ℕ) (limit : Option ℕ) (root : ℕ) (X : Shape) (e : Error) → length bytes < 2 ^ 64 → IsRefusal D bytes limit root X e → ExplainsNoArchive D bytes limit root X e
refusal_no_archive D bytes limit root X e small (inl (inl memory)) = inl memory
refusal_no_archive D bytes limit root X e small (inl (inr (inl (is, none)))) = inr (λ a. none a.well_formed.defined)
refusal_no_archive D bytes limit root X e small (inl (inr (inr (is, all, none)))) = inr (λ a. none a.well_formed)
refusal_no_archive D bytes limit root X e small (inr f) = inr (faulty_no_archive D bytes limit root X e small f)

-- where nothing was told of shared positions, none is named otherwise
pub none_named : (told : Entries) → NoEntries told → AreNamedByPosition told
none_named told h t k e = let none = h t in cc

-- and none holds anything else than the archive says
none_wrong : (shared : FinMap nat_cmp (Entry × Value)) (told : Entries) → NoEntries told → AreRight shared told
none_wrong shared told h t k e = let none = h t in cc

-- What is said at the root is what the buffer denotes, with the keys that hold what the archive does, where the names that it leads to are among them.
module _ (D : Definitions) (bytes : List ℕ) (root : ℕ) (X : Shape) (w : Value) (keys : List Naming)
    (direct : (k : ℕ) → Names k w → (x : Entry × Value) × Contains keys (k, x))
    (further : (k : Naming) → Contains keys k → (u : ℕ) → Names u k.1.1 → (x : Entry × Value) × Contains keys (u, x))
    (a : IsArchive D bytes root X) (says : Says D bytes root (one X) 0 w)
    (shares : (s : SchemaTable) (m : Meaning) → Knows s D → Denotes s bytes root X m → AreShared m.shared keys) where
  value_is : (s : SchemaTable) (m : Meaning) → Knows s D → Denotes s bytes root X m → m.value ≡ w
  value_is s m k d = root_says D bytes root X w s m says k d

  -- a key holds what the archive does
  same_held : (s : SchemaTable) (m : Meaning) → Knows s D → Denotes s bytes root X m → (t : ℕ) (x : Entry × Value) → Contains keys (t, x) → (e : Entry) (v : Value) → get m.shared t ≡ Some (e, v) → x.1 ≡ v
  same_held s m k d t x c e v known =
      let i = shares s m k d (t, x) c in
      ap (λ (p : Entry × Value). p.1) (same_some (sym i.known ∙ known))

  -- each name that the archive leads to is among the keys
  led : (s : SchemaTable) (m : Meaning) → Knows s D → Denotes s bytes root X m → (t : ℕ) → LeadsTo m.shared m.value t → (x : Entry × Value) × Contains keys (t, x)
  led s m k d t (leads_at_once n) = direct t (subst (Names t) (value_is s m k d) n)
  led s m k d t (leads_through {t = q} {e = e} {w = v} l known n) =
      let (x, c) = led s m k d q l in
      further (q, x) c t (subst (Names t) (sym (same_held s m k d q x c e v known)) n)

  pub root_value : IsValueOf D bytes root X w keys
  root_value = record {
    archive = a;
    denoted = value_is;
    shared = shares;
    whole = λ s m k d t e v known.
        let (x, c) = led s m k d t (names_reached s bytes d t e v known) in
        (x.0, subst (λ z. Contains keys (t, (x.0, z))) (same_held s m k d t x c e v known) c);
  }

-- so a value without names is all that the buffer denotes
pub root_said : (D : Definitions) (bytes : List ℕ) (root : ℕ) (X : Shape) (w : Value) → ((k : ℕ) → Names k w → ⊥) → IsArchive D bytes root X → Says D bytes root (one X) 0 w → IsValueOf D bytes root X w []
root_said D bytes root X w none a says = root_value D bytes root X w [] (λ k n. absurd (none k n)) (λ k c. absurd (omega (arith, c.1))) a says (λ s m k d key c. absurd (omega (arith, c.1)))

pub number_named : (z : ℤ) (k : ℕ) → Names k (number z) → ⊥
number_named z k n = elim n [ ]

-- What is read back at the root, with nothing told before.
module _ {keeps : Bool} (D : Definitions) (bytes : List ℕ) (root : ℕ) (X : Shape) (old new : Entries) (w : Value) (keys : List Naming) (a : IsArchive D bytes root X) (h : ReadsBack keeps D bytes root (one X) 0 old new w keys) where
  at_root : NoEntries old → (s : SchemaTable) (m : Meaning) → Knows s D → Denotes s bytes root X m → AreShared m.shared keys × AreRight m.shared new
  unfolding root_lies
  at_root empty s m k d = h.shared (none_named old empty) s m k (root_lies s bytes d.accepted) d (none_wrong m.shared old empty)

  -- an archive meets no open position in all schemas
  root_unmet : IsCyclic D bytes old root (one X) 0 → ⊥
  root_unmet c = ∥∥₁_elim a.known (λ x y. absurd x) (λ (s, k). ∥∥₁_elim (a.accepted s k) (λ x y. absurd x) (λ b. let l = root_lies s bytes b.0 in h.unmet s k l (c.meets s k l)))

  pub root_read : ((k : ℕ) → Names k w → (x : Entry × Value) × Contains keys (k, x)) → ((k : Naming) → Contains keys k → (u : ℕ) → Names u k.1.1 → (x : Entry × Value) × Contains keys (u, x))
      → ReadsWhole keeps D bytes root X old new w keys
  root_read direct further = record {
    kept = h.kept;
    value = λ empty. root_value D bytes root X w keys direct further a (h.value (none_named old empty)) (λ s m k d. (at_root empty s m k d).0);
    right = λ empty s m k d. (at_root empty s m k d).1;
    unmet = root_unmet;
    once = h.once;
  }

-- what definitions without a meaning are refused as, a check answers
pub answers_unmeant : {A : Type 0} (D : Definitions) (bytes : List ℕ) (limit : Option ℕ) (root : ℕ) (X : Shape) (r : Result A Error) (e : Error) → IsErrAnd r (λ d. d ≡ e) → length bytes < 2 ^ 64 → ExplainsNoSchema X D e
    → Answers D bytes limit root X r
answers_unmeant D bytes limit root X (Ok a) e h small why = absurd h
answers_unmeant D bytes limit root X (Err d) e h small why = rw h (record { accepted = tt; refused = inl why; exact = refusal_no_archive D bytes limit root X e small (inl why) })
