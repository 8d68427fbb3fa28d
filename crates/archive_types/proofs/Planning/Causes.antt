-- Why a write is refused, from why its steps are.
use Rattle.std.proofs.Common.{◌≡◌, ◌⊎◌, inl, inr, ℕ, ◌+◌, ◌-◌, ◌^◌, ◌<◌, ◌≤◌, List, [], ◌++◌, length, refl, sym, ap, ◌∙◌, append_assoc, length-append, arith, Option, Some, None}
use Rattle.std.specs.Prelude.{IsSomeAnd, Result, Ok, Err, IfErr, IsErrAnd, Bool, true, false, IsTrue, IsFalse}
use Rattle.std.proofs.lemmas.List.{append-nil}
use Rattle.std.proofs.lemmas.Bool.{cases_lt}
use Rattle.archive_check.specs.WriterState.{WriterState, KeepsKeys, KeepsBytes}
use Rattle.archive_check.specs.declared.format.error.Error.{Error}
use Rattle.archive_check.specs.declared.format.error.Error.TheVariants.{OutOfMemory, IsizeOverflow, OffsetOverflow, PositionTooLarge, LengthTooLarge, NumberTooLarge, StringTooLong, BufferOverflow, WriterFailed, ItemWrote, CyclicSerialize, CyclicValidate, CyclicDeserialize, NotStarted, AlreadyFinished, InvalidSubtreePointer, UnalignedPointer, ExceededMaximumSubtreeDepth, RangePoppedTooManyTimes, RangePoppedOutOfOrder, TypeMismatch, MetadataMismatch, LayoutTooLarge, InvalidDiscriminant, InvalidBool, InvalidChar, ZeroNumber, InvalidUtf8, InvalidStringRepr, ShapeConflict, RecursiveLayout, UnsortedKeys}
use Rattle.archive_write.specs.Written.{IsBeginning, RoomFalls, GoesOn, ExplainsRefusal}
use Rattle.archive_write.specs.Sharing.{KeepsKnown, IsNoMisuse}
use Rattle.archive_types.specs.Causes.{Overflows, Explains, no_memory, no_room, device_failed, own_cause, IsOwnCause, of_isize, of_offset, of_position, of_length, of_number, of_string, of_key, of_layout, of_order, IsOfWriting, of_memory, of_room, of_device, of_value}

-- how a writer goes on

pub begins_itself : (xs : List ℕ) → IsBeginning xs xs
begins_itself xs = record { rest = []; whole = sym (append-nil xs) }

pub begins_both : (xs ys zs : List ℕ) → IsBeginning xs ys → IsBeginning ys zs → IsBeginning xs zs
begins_both xs ys zs h k = record { rest = h.rest ++ k.rest; whole = k.whole ∙ ap (λ z. z ++ k.rest) h.whole ∙ append_assoc xs h.rest k.rest }

pub begins_shorter : (xs ys : List ℕ) → IsBeginning xs ys → length xs ≤ length ys
begins_shorter xs ys h = omega (arith, ap length h.whole, length-append xs h.rest)

room_same : (r : Option ℕ) (xs : List ℕ) → RoomFalls r r xs xs
room_same None xs = refl
room_same (Some room) xs = (omega arith, ap Some (omega arith))

room_both : (r s t : Option ℕ) (xs ys zs : List ℕ) → length xs ≤ length ys → length ys ≤ length zs → RoomFalls r s xs ys → RoomFalls s t ys zs → RoomFalls r t xs zs
room_both None s t xs ys zs le ge h k = rw h at k
room_both (Some room) s t xs ys zs le ge h k = (let m = rw (h.1) at k in (omega (arith, h.0, m.0), m.1 ∙ ap Some (omega (arith, h.0, m.0))))

pub goes_nowhere : (w : WriterState) → GoesOn w w
goes_nowhere w = record { kept = begins_itself w.bytes; room = room_same w.room w.bytes; device = omega arith; known = λ k x is. is }

pub goes_both : (a b c : WriterState) → GoesOn a b → GoesOn b c → GoesOn a c
goes_both a b c h k = record {
  kept = begins_both a.bytes b.bytes c.bytes h.kept k.kept;
  room = room_both a.room b.room c.room a.bytes b.bytes c.bytes (begins_shorter _ _ h.kept) (begins_shorter _ _ k.kept) h.room k.room;
  device = omega (arith, h.device, k.device);
  known = λ key x is. k.known key x (h.known key x is);
}

-- causes

full_later : (r s : Option ℕ) (xs ys : List ℕ) (cap end : ℕ) → length xs ≤ length ys → RoomFalls r s xs ys
    → IsSomeAnd s (λ room. (cap ≡ length ys + room) × (cap < end)) → IsSomeAnd r (λ room. (cap ≡ length xs + room) × (cap < end))
full_later None s xs ys cap end le h k = rw h at k
full_later (Some room) s xs ys cap end le h k = (let m = rw (h.1) at k in (omega (arith, h.0, m.0), m.1))

overflows_later : (reaches whole : ℕ → Type 0) (old mid new : WriterState) (count cap position : ℕ) → GoesOn old mid → ((n : ℕ) → reaches n → whole n)
    → Overflows reaches mid new count cap position → Overflows whole old new count cap position
overflows_later reaches whole old mid new count cap position g m h = record {
  behind = omega (arith, h.behind, begins_shorter _ _ g.kept);
  held = h.held;
  planned = m (position + count) h.planned;
  full = full_later old.room mid.room old.bytes mid.bytes cap (position + count) (begins_shorter _ _ g.kept) g.room h.full;
  left = h.left;
}

failed_later : (a b c : ℕ) → a ≤ b → b ≤ c → (b < c) ⊎ (b ≡ 2 ^ 64 - 1) → (a < c) ⊎ (a ≡ 2 ^ 64 - 1)
failed_later a b c le ge (inl h) = inl (omega arith)
failed_later a b c le ge (inr h) = elim (cases_lt a b) [ inl l ↦ inl (omega arith) | inr l ↦ inr (omega arith) ]

-- a step that follows others was refused
pub explains_later : (own all : Error → Type 0) (reaches whole : ℕ → Type 0) (old mid new : WriterState) (e : Error) → GoesOn old mid → GoesOn mid new
    → (own e → all e) → ((n : ℕ) → reaches n → whole n) → Explains own reaches mid new e → Explains all whole old new e
explains_later own all reaches whole old mid new e g k f m no_memory = no_memory
explains_later own all reaches whole old mid new e g k f m (no_room h) = no_room (overflows_later reaches whole old mid new _ _ _ g m h)
explains_later own all reaches whole old mid new e g k f m (device_failed h) = device_failed (failed_later old.failures mid.failures new.failures g.device k.device h)
explains_later own all reaches whole old mid new e g k f m (own_cause h) = own_cause (f h)

-- a step that others were to follow was refused
pub explains_sooner : (own all : Error → Type 0) (reaches whole : ℕ → Type 0) (old new : WriterState) (e : Error) → (own e → all e) → ((n : ℕ) → reaches n → whole n)
    → Explains own reaches old new e → Explains all whole old new e
explains_sooner own all reaches whole old new e f m no_memory = no_memory
explains_sooner own all reaches whole old new e f m (no_room h) = no_room (record { behind = h.behind; held = h.held; planned = m _ h.planned; full = h.full; left = h.left })
explains_sooner own all reaches whole old new e f m (device_failed h) = device_failed h
explains_sooner own all reaches whole old new e f m (own_cause h) = own_cause (f h)

left_now : (r s : Option ℕ) (xs ys : List ℕ) (n count begin cap : ℕ) → RoomFalls r s xs ys → count ≡ n → IsSomeAnd r (λ room. (room < n) × (cap ≡ begin + room))
    → IsSomeAnd s (λ room. room < count)
left_now None s xs ys n count begin cap falls e h = absurd h
left_now (Some room) s xs ys n count begin cap falls e h = rw (falls.1) (omega (arith, h.0, e))

full_now : (r : Option ℕ) (n begin len count cap position : ℕ) → begin ≡ len → count ≡ n → position ≡ begin
    → IsSomeAnd r (λ room. (room < n) × (cap ≡ begin + room)) → IsSomeAnd r (λ room. (cap ≡ len + room) × (cap < position + count))
full_now None n begin len count cap position e f g h = absurd h
full_now (Some room) n begin len count cap position e f g h = (omega (arith, h.1), omega (arith, h.0, h.1))

-- a write of n bytes was refused
pub explains_write : (own : Error → Type 0) (reaches : ℕ → Type 0) (n position : ℕ) (old new : WriterState) (e : Error) → position ≡ length old.bytes → reaches (position + n) → GoesOn old new
    → ExplainsRefusal n position (length new.bytes) old.room old.failures new.failures e → Explains own reaches old new e
explains_write own reaches n position old new OutOfMemory here fits g h = no_memory
explains_write own reaches n position old new (BufferOverflow count cap at) here fits g h = no_room (record {
  behind = omega (arith, h.1, here);
  held = h.1 ∙ sym h.2;
  planned = rw (h.0, h.1) fits;
  full = full_now old.room n position (length old.bytes) count cap at here h.0 h.1 h.3;
  left = left_now old.room new.room old.bytes new.bytes n count position cap g.room h.0 h.3;
})
explains_write own reaches n position old new WriterFailed here fits g h = device_failed h
explains_write own reaches n position old new IsizeOverflow here fits g h = absurd h
explains_write own reaches n position old new OffsetOverflow here fits g h = absurd h
explains_write own reaches n position old new PositionTooLarge here fits g h = absurd h
explains_write own reaches n position old new LengthTooLarge here fits g h = absurd h
explains_write own reaches n position old new NumberTooLarge here fits g h = absurd h
explains_write own reaches n position old new StringTooLong here fits g h = absurd h
explains_write own reaches n position old new ItemWrote here fits g h = absurd h
explains_write own reaches n position old new CyclicSerialize here fits g h = absurd h
explains_write own reaches n position old new CyclicValidate here fits g h = absurd h
explains_write own reaches n position old new CyclicDeserialize here fits g h = absurd h
explains_write own reaches n position old new NotStarted here fits g h = absurd h
explains_write own reaches n position old new AlreadyFinished here fits g h = absurd h
explains_write own reaches n position old new ExceededMaximumSubtreeDepth here fits g h = absurd h
explains_write own reaches n position old new RangePoppedTooManyTimes here fits g h = absurd h
explains_write own reaches n position old new RangePoppedOutOfOrder here fits g h = absurd h
explains_write own reaches n position old new TypeMismatch here fits g h = absurd h
explains_write own reaches n position old new MetadataMismatch here fits g h = absurd h
explains_write own reaches n position old new LayoutTooLarge here fits g h = absurd h
explains_write own reaches n position old new InvalidBool here fits g h = absurd h
explains_write own reaches n position old new InvalidChar here fits g h = absurd h
explains_write own reaches n position old new ZeroNumber here fits g h = absurd h
explains_write own reaches n position old new InvalidUtf8 here fits g h = absurd h
explains_write own reaches n position old new InvalidStringRepr here fits g h = absurd h
explains_write own reaches n position old new ShapeConflict here fits g h = absurd h
explains_write own reaches n position old new RecursiveLayout here fits g h = absurd h
explains_write own reaches n position old new UnsortedKeys here fits g h = absurd h
explains_write own reaches n position old new (InvalidSubtreePointer a b c d) here fits g h = absurd h
explains_write own reaches n position old new (UnalignedPointer a b) here fits g h = absurd h
explains_write own reaches n position old new (InvalidDiscriminant a b) here fits g h = absurd h

pub explains_own : (own : Error → Type 0) (reaches : ℕ → Type 0) (old new : WriterState) (e : Error) → own e → Explains own reaches old new e
explains_own own reaches old new e h = own_cause h

-- one write

pub goes_written : (old new : WriterState) (bs : List ℕ) → new.bytes ≡ old.bytes ++ bs → RoomFalls old.room new.room old.bytes new.bytes → old.failures ≤ new.failures
    → KeepsKeys old.states new.states → GoesOn old new
goes_written old new bs grown room device keys = record { kept = record { rest = bs; whole = grown }; room = room; device = device; known = λ k x is. keys k ∙ is }

pub goes_refused : (old new : WriterState) → IsBeginning old.bytes new.bytes → RoomFalls old.room new.room old.bytes new.bytes → old.failures ≤ new.failures
    → KeepsKeys old.states new.states → GoesOn old new
goes_refused old new kept room device keys = record { kept = kept; room = room; device = device; known = λ k x is. keys k ∙ is }

-- of a write that may not have come to pass
pub goes_if : (came : Bool) (old new : WriterState) (bs : List ℕ) → (IsTrue came → new.bytes ≡ old.bytes ++ bs) → (IsTrue came → RoomFalls old.room new.room old.bytes new.bytes)
    → old.failures ≤ new.failures → KeepsKeys old.states new.states → (IsFalse came → new ≡ old) → GoesOn old new
goes_if true old new bs grown room device keys same = goes_written old new bs (grown refl) (room refl) device keys
goes_if false old new bs grown room device keys same = rw (same refl) (goes_nowhere old)

-- nothing changed but states of keys
pub goes_kept : (old new : WriterState) → KeepsBytes old new → KeepsKnown old.states new.states → GoesOn old new
goes_kept old new same known = record {
  kept = record { rest = []; whole = same.0 ∙ sym (append-nil old.bytes) };
  room = rw (same.0, same.1) (room_same old.room old.bytes);
  device = omega (arith, same.2);
  known = known;
}

-- what a refusal is passed on as

pub err_by : {A : Type 0} (r : Result A Error) (e : Error) (P : Error → Type 0) → IsErrAnd r (λ d. d ≡ e) → P e → IfErr r P
err_by (Ok a) e P h p = tt
err_by (Err d) e P h p = rw h p

pub err_from : {A : Type 0} {P Q : Error → Type 0} (r : Result A Error) → IfErr r P → ((e : Error) → P e → Q e) → IfErr r Q
err_from (Ok a) h f = tt
err_from (Err e) h f = f e h

-- where there is no limit, and no device
pub explains_unlimited : (own : Error → Type 0) (reaches : ℕ → Type 0) (old new : WriterState) (e : Error) → old.room ≡ None → old.failures ≡ 0 → new.failures ≡ 0
    → Explains own reaches old new e → (e ≡ OutOfMemory) ⊎ own e
explains_unlimited own reaches old new e none a b no_memory = inl refl
explains_unlimited own reaches old new e none a b (no_room {count = count} {cap = end} {position = position} h) =
    let full : IsSomeAnd None (λ room. (end ≡ length old.bytes + room) × (end < position + count)) = rw none at h.full in absurd full
explains_unlimited own reaches old new e none a b (device_failed (inl h)) = absurd (omega arith)
explains_unlimited own reaches old new e none a b (device_failed (inr h)) = absurd (omega arith)
explains_unlimited own reaches old new e none a b (own_cause h) = inr h

pub err_at : {A : Type 0} (P : Error → Type 0) (r : Result A Error) (e : Error) → r ≡ Err e → IfErr r P → P e
err_at P r e is h = rw is at h

-- a refusal that is explained is one of writing, where the value's own causes are
pub explains_named : (own : Error → Type 0) (reaches : ℕ → Type 0) (old new : WriterState) (e : Error) → ((d : Error) → own d → IsOwnCause d) → Explains own reaches old new e → IsOfWriting e
explains_named own reaches old new e f no_memory = of_memory
explains_named own reaches old new e f (no_room h) = of_room
explains_named own reaches old new e f (device_failed h) = of_device
explains_named own reaches old new e f (own_cause h) = of_value (f e h)

-- and so no misuse of a key
pub writing_no_misuse : (e : Error) → IsOfWriting e → IsNoMisuse e
writing_no_misuse e of_memory = ((λ h. cc), (λ h. cc))
writing_no_misuse e of_room = ((λ h. cc), (λ h. cc))
writing_no_misuse e of_device = ((λ h. cc), (λ h. cc))
writing_no_misuse e (of_value of_isize) = ((λ h. cc), (λ h. cc))
writing_no_misuse e (of_value of_offset) = ((λ h. cc), (λ h. cc))
writing_no_misuse e (of_value of_position) = ((λ h. cc), (λ h. cc))
writing_no_misuse e (of_value of_length) = ((λ h. cc), (λ h. cc))
writing_no_misuse e (of_value of_number) = ((λ h. cc), (λ h. cc))
writing_no_misuse e (of_value of_string) = ((λ h. cc), (λ h. cc))
writing_no_misuse e (of_value of_key) = ((λ h. cc), (λ h. cc))
writing_no_misuse e (of_value of_layout) = ((λ h. cc), (λ h. cc))
writing_no_misuse e (of_value of_order) = ((λ h. cc), (λ h. cc))
