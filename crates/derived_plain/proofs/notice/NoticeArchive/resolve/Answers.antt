-- Written by tools/derive: change the declaration, and run it again.
use Rattle.std.proofs.Common.{rules}
use Rattle.std.proofs.Common.{◌≡◌, ℕ, Some, [], ap, refl, sym}
use Rattle.archive_core.specs.Plain.{variant_in}
use Rattle.archive_core.specs.Shape.{no_part}
use Rattle.archive_core.specs.Value.{case, no_value}
use Rattle.derived_plain.specs.declared.notice.Notice.{Notice}
use Rattle.derived_plain.specs.declared.notice.Notice.TheVariants.{Called as NoticeCalled, Closed as NoticeClosed, Counted as NoticeCounted, File as NoticeFile, Freed as NoticeFreed, Joined as NoticeJoined, Left as NoticeLeft, Locked as NoticeLocked, Muted as NoticeMuted, Opened as NoticeOpened, Paused as NoticePaused, Result as NoticeResult, Resumed as NoticeResumed, Seated as NoticeSeated, Settings as NoticeSettings, Unlocked as NoticeUnlocked, Unmuted as NoticeUnmuted}
use Rattle.derived_plain.specs.contracts.notice.ArchivedNoticePortable.TheImpl.{shape-value}
use Rattle.derived_plain.specs.contracts.notice.NoticeArchive.TheImpl.{flat-value}
use Rattle.derived_plain.specs.declared.notice.NoticeResolver.{NoticeResolver}
use Rattle.derived_plain.proofs.notice.NoticeArchive.resolve.Goals.{in-File, in-Settings, in-Joined, in-Left, in-Result, in-Called, in-Seated, in-Freed, in-Counted, in_default}
use Rattle.derived_plain.proofs.notice.NoticeArchive.resolve.Goals as goal

-- The tag of each.
abbrev HasTag : Notice → ℕ → Type 0
HasTag v t = elim v [ NoticeClosed ↦ t ≡ 0 | NoticeOpened ↦ t ≡ 1 | NoticePaused ↦ t ≡ 2 | NoticeResumed ↦ t ≡ 3 | NoticeLocked ↦ t ≡ 4 | NoticeUnlocked ↦ t ≡ 5 | NoticeMuted ↦ t ≡ 6 | NoticeUnmuted ↦ t ≡ 7 | NoticeFile a0 a1 a2 ↦ t ≡ 8 | NoticeSettings a0 ↦ t ≡ 9 | NoticeJoined a0 ↦ t ≡ 10 | NoticeLeft a0 ↦ t ≡ 11 | NoticeResult a0 ↦ t ≡ 12 | NoticeCalled a0 ↦ t ≡ 13 | NoticeSeated a0 ↦ t ≡ 14 | NoticeFreed a0 ↦ t ≡ 15 | NoticeCounted a0 ↦ t ≡ 16 ]

abbrev HasNoField : Notice → Type 0
HasNoField v = elim v [ NoticeFile a0 a1 a2 ↦ ⊥ | NoticeSettings a0 ↦ ⊥ | NoticeJoined a0 ↦ ⊥ | NoticeLeft a0 ↦ ⊥ | NoticeResult a0 ↦ ⊥ | NoticeCalled a0 ↦ ⊥ | NoticeSeated a0 ↦ ⊥ | NoticeFreed a0 ↦ ⊥ | NoticeCounted a0 ↦ ⊥ | w ↦ Unit {0} ]

-- No part is behind its tag.
has_no_part : (v : Notice) (t : ℕ) → HasNoField v → HasTag v t → variant_in (shape-value).it t ≡ Some no_part
has_no_part v t = elim v as (λ v. HasNoField v → HasTag v t → variant_in (shape-value).it t ≡ Some no_part) [
  | NoticeFile a0 a1 a2 ↦ λ none tagged. absurd none
  | NoticeSettings a0 ↦ λ none tagged. absurd none
  | NoticeJoined a0 ↦ λ none tagged. absurd none
  | NoticeLeft a0 ↦ λ none tagged. absurd none
  | NoticeResult a0 ↦ λ none tagged. absurd none
  | NoticeCalled a0 ↦ λ none tagged. absurd none
  | NoticeSeated a0 ↦ λ none tagged. absurd none
  | NoticeFreed a0 ↦ λ none tagged. absurd none
  | NoticeCounted a0 ↦ λ none tagged. absurd none
  | w ↦ λ none tagged. rw tagged refl
]

-- It is flat as its tag.
is_flat : (v : Notice) (r : NoticeResolver) (t : ℕ) → HasNoField v → HasTag v t → (flat-value).it v r ≡ case t no_value
is_flat v r t = elim v as (λ v. HasNoField v → HasTag v t → (flat-value).it v r ≡ case t no_value) [
  | NoticeFile a0 a1 a2 ↦ λ none tagged. absurd none
  | NoticeSettings a0 ↦ λ none tagged. absurd none
  | NoticeJoined a0 ↦ λ none tagged. absurd none
  | NoticeLeft a0 ↦ λ none tagged. absurd none
  | NoticeResult a0 ↦ λ none tagged. absurd none
  | NoticeCalled a0 ↦ λ none tagged. absurd none
  | NoticeSeated a0 ↦ λ none tagged. absurd none
  | NoticeFreed a0 ↦ λ none tagged. absurd none
  | NoticeCounted a0 ↦ λ none tagged. absurd none
  | w ↦ λ none tagged. ap (λ n. case n no_value) (sym tagged)
]

pub resolve_unit-requires-clause-variant : goal.resolve_unit-requires-clause-variant
resolve_unit-requires-clause-variant c = has_no_part c.args.self.now c.tag.result ((elim c.args.self.now as (λ v. c.args.self.now ≡ v → HasNoField v) [ NoticeFile a0 a1 a2 ↦ λ e. c.in_default.not-File a0 a1 a2 e | NoticeSettings a0 ↦ λ e. c.in_default.not-Settings a0 e | NoticeJoined a0 ↦ λ e. c.in_default.not-Joined a0 e | NoticeLeft a0 ↦ λ e. c.in_default.not-Left a0 e | NoticeResult a0 ↦ λ e. c.in_default.not-Result a0 e | NoticeCalled a0 ↦ λ e. c.in_default.not-Called a0 e | NoticeSeated a0 ↦ λ e. c.in_default.not-Seated a0 e | NoticeFreed a0 ↦ λ e. c.in_default.not-Freed a0 e | NoticeCounted a0 ↦ λ e. c.in_default.not-Counted a0 e | v ↦ λ e. tt ]) refl) c.tag.ensures

pub returns : goal.returns
returns c = elim c.match-self.branch [
  | in-File w ↦ grind (w.resolve_variant_8.ensures, w.bytes-is, w.result-is, rules)
  | in-Settings w ↦ grind (w.resolve_variant_9.ensures, w.bytes-is, w.result-is, rules)
  | in-Joined w ↦ grind (w.resolve_variant_10.ensures, w.bytes-is, w.result-is, rules)
  | in-Left w ↦ grind (w.resolve_variant_11.ensures, w.bytes-is, w.result-is, rules)
  | in-Result w ↦ grind (w.resolve_variant_12.ensures, w.bytes-is, w.result-is, rules)
  | in-Called w ↦ grind (w.resolve_variant_13.ensures, w.bytes-is, w.result-is, rules)
  | in-Seated w ↦ grind (w.resolve_variant_14.ensures, w.bytes-is, w.result-is, rules)
  | in-Freed w ↦ grind (w.resolve_variant_15.ensures, w.bytes-is, w.result-is, rules)
  | in-Counted w ↦ grind (w.resolve_variant_16.ensures, w.bytes-is, w.result-is, rules)
  | in_default w ↦ let e = is_flat c.args.self.now c.args.resolver w.tag.result ((elim c.args.self.now as (λ v. c.args.self.now ≡ v → HasNoField v) [ NoticeFile a0 a1 a2 ↦ λ e. w.in_default.not-File a0 a1 a2 e | NoticeSettings a0 ↦ λ e. w.in_default.not-Settings a0 e | NoticeJoined a0 ↦ λ e. w.in_default.not-Joined a0 e | NoticeLeft a0 ↦ λ e. w.in_default.not-Left a0 e | NoticeResult a0 ↦ λ e. w.in_default.not-Result a0 e | NoticeCalled a0 ↦ λ e. w.in_default.not-Called a0 e | NoticeSeated a0 ↦ λ e. w.in_default.not-Seated a0 e | NoticeFreed a0 ↦ λ e. w.in_default.not-Freed a0 e | NoticeCounted a0 ↦ λ e. w.in_default.not-Counted a0 e | v ↦ λ e. tt ]) refl) w.tag.ensures in grind (e, w.resolve_unit.ensures, w.bytes-is, w.result-is, rules)
]
