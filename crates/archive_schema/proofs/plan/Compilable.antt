-- What holds an expression that can be compiled, and what it holds.
use Rattle.std.proofs.Common.{◌≡◌, ℕ, ◌<◌, sym, subst, List, Some, IsSome}
use Rattle.archive_schema.specs.declared.plan.growing.NamedNode.{NamedNode}
use Rattle.archive_check.specs.Shape.{Name, Shape, parts, choice, array, boxed, vec, sorted_map, Key, shared, weak, named, Flavor, Pointee, one, run, Parts, part, Variants, variant}
use Rattle.archive_check.specs.Defined.{holds_name, holds_parts, holds_choice, holds_array, holds_first, holds_later, holds_variant, holds_other, Mentions, mentions_held, mentions_array, mentions_parts, mentions_choice, mentions_boxed, mentions_vec, mentions_map, mentions_shared, mentions_weak, mentions_one, mentions_run, mentions_first, mentions_later, mentions_variant, mentions_other}
use Rattle.archive_schema.specs.plan.PlanGrowth.{node_of}
use Rattle.archive_schema.specs.plan.Compilable.{Can, CanParts, CanVariants, CanPoint, CanWait}

module _ {names : List NamedNode} {done : ℕ} where
  pub can_parts : {ps : Parts} → Can names done (parts ps) → CanParts names done ps
  can_parts c = record { parts_known = λ n m. c.known n (mentions_parts m); parts_placed = λ n j h e. c.placed n j (holds_parts h) e }

  pub can_choice : {name : Name} {vs : Variants} → Can names done (choice name vs) → CanVariants names done vs
  can_choice c = record { variants_known = λ n m. c.known n (mentions_choice m); variants_placed = λ n j h e. c.placed n j (holds_choice h) e }

  pub can_array : {k : ℕ} {X : Shape} → Can names done (array k X) → Can names done X
  can_array c = record { known = λ n m. c.known n (mentions_array m); placed = λ n j h e. c.placed n j (holds_array h) e }

  pub can_boxed : {P : Pointee} → Can names done (boxed P) → CanPoint names P
  can_boxed c = record { pointee_known = λ n m. c.known n (mentions_boxed m) }

  pub can_vec : {X : Shape} → Can names done (vec X) → CanWait names X
  can_vec c = record { shape_known = λ n m. c.known n (mentions_vec m) }

  pub can_map : {K : Key} {V : Shape} → Can names done (sorted_map K V) → CanWait names V
  can_map c = record { shape_known = λ n m. c.known n (mentions_map m) }

  pub can_shared : {flavor : Flavor} {P : Pointee} → Can names done (shared flavor P) → CanPoint names P
  can_shared c = record { pointee_known = λ n m. c.known n (mentions_shared m) }

  pub can_weak : {flavor : Flavor} {P : Pointee} → Can names done (weak flavor P) → CanPoint names P
  can_weak c = record { pointee_known = λ n m. c.known n (mentions_weak m) }

  pub can_first : {X : Shape} {ps : Parts} → CanParts names done (part X ps) → Can names done X
  can_first c = record { known = λ n m. c.parts_known n (mentions_first m); placed = λ n j h e. c.parts_placed n j (holds_first h) e }

  pub can_later : {X : Shape} {ps : Parts} → CanParts names done (part X ps) → CanParts names done ps
  can_later c = record { parts_known = λ n m. c.parts_known n (mentions_later m); parts_placed = λ n j h e. c.parts_placed n j (holds_later h) e }

  pub can_variant : {ps : Parts} {vs : Variants} → CanVariants names done (variant ps vs) → CanParts names done ps
  can_variant c = record { parts_known = λ n m. c.variants_known n (mentions_variant m); parts_placed = λ n j h e. c.variants_placed n j (holds_variant h) e }

  pub can_others : {ps : Parts} {vs : Variants} → CanVariants names done (variant ps vs) → CanVariants names done vs
  can_others c = record { variants_known = λ n m. c.variants_known n (mentions_other m); variants_placed = λ n j h e. c.variants_placed n j (holds_other h) e }

  pub can_name : {name : Name} → Can names done (named name) → IsSome (node_of names name)
  can_name {name} c = c.known name (mentions_held holds_name)

  pub can_placed : {name : Name} {j : ℕ} → Can names done (named name) → node_of names name ≡ Some j → j < done
  can_placed {name} {j} c e = c.placed name j holds_name e

module _ {names : List NamedNode} where
  pub can_one : {X : Shape} → CanPoint names (one X) → CanWait names X
  can_one c = record { shape_known = λ n m. c.pointee_known n (mentions_one m) }

  pub can_run : {X : Shape} → CanPoint names (run X) → CanWait names X
  can_run c = record { shape_known = λ n m. c.pointee_known n (mentions_run m) }

  -- what isn't known yet is a name
  pub wait_name : {X : Shape} → CanWait names X → (name : Name) → X ≡ named name → IsSome (node_of names name)
  wait_name {X} c name e = c.shape_known name (subst (λ Y. Mentions name Y) (sym e) (mentions_held holds_name))

-- the same, said of another shape that is the same
pub can_as : {names : List NamedNode} {done : ℕ} {X Y : Shape} → X ≡ Y → Can names done X → Can names done Y
can_as {names} {done} e c = subst (λ Z. Can names done Z) e c

pub can_parts_as : {names : List NamedNode} {done : ℕ} {ps qs : Parts} → ps ≡ qs → CanParts names done ps → CanParts names done qs
can_parts_as {names} {done} e c = subst (λ Z. CanParts names done Z) e c

pub can_variants_as : {names : List NamedNode} {done : ℕ} {vs us : Variants} → vs ≡ us → CanVariants names done vs → CanVariants names done us
can_variants_as {names} {done} e c = subst (λ Z. CanVariants names done Z) e c
