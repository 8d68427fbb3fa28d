-- Sizes in usize: None stands for all above usize::MAX.
use Rattle.std.specs.Prelude.{ℕ, Option, Some, None, nat_lt, if◌then◌else◌, ◌*◌, cond, nat_eq}
use Rattle.archive_check.specs.Layout.{up}

-- A number, or None where it is above usize::MAX.
abbrev pub fits : ℕ → Option ℕ
fits n = if nat_lt n 18446744073709551616 then Some n else None

-- Rounded up.
abbrev pub rounded : Option ℕ → ℕ → Option ℕ
rounded None a = None
rounded (Some n) a = fits (up n a)

-- What n of a size take.
abbrev pub times : Option ℕ → ℕ → Option ℕ
times None n = cond (nat_eq n 0) (Some 0) None
times (Some z) n = if nat_lt (z * n) 18446744073709551616 then Some (z * n) else None
