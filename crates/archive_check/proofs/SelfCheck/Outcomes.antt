-- What a call that may stop answers, restated.
use Rattle.std.proofs.Common.{◌≡◌, Option, Some, None, OnSome, IfNone}
use Rattle.archive_check.specs.declared.format.error.Error.{Error}

pub some_map : {A B : Type 0} (r : Option (Unit {0})) → (A → B) → OnSome r A → OnSome r B
some_map (Some u) f h = f h
some_map None f h = tt

pub none_map : {A B : Type 0} (r : Option (Unit {0})) → (A → B) → IfNone r A → IfNone r B
none_map (Some u) f h = tt
none_map None f h = f h

pub if_none : {A : Type 0} (B : Error → Type 0) (r : Option A) (fault e : Error) → fault ≡ e → B e → IfNone r (B fault)
if_none B (Some u) fault e is h = tt
if_none B None fault e is h = rw is h

pub stopped_map : {X A B : Type 0} (r : Option X) → (A → B) → IfNone r A → IfNone r B
stopped_map (Some x) f h = tt
stopped_map None f h = f h
