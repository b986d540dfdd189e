-- The view of a URL: its text, and where its host stands in it.
use Rattle.std.specs.Prelude.{◌≡◌, ℕ, ◌-◌, ◌<◌, ◌≤◌, List, length, take, slice_index, slice_range, Bool, IsTrue, IsAscii, nat_le, ◌==◌, ◌&&◌, ◌||◌}
use Rattle.std.specs.List.{list_all, position_or_len}
use Rattle.dnr_base.specs.declared.scheme.Scheme.{Scheme}
use Rattle.dnr_base.specs.declared.span.Span.{Span}

-- `full` is the URL's serialization, and `cut` where its fragment begins
pub record View : Type 0 where
  pub full : List ℕ
  pub cut : ℕ
  pub scheme : Scheme
  pub host : Span

-- where the fragment of a serialization begins: at the first `#`, or at the end
abbrev pub fragment_place : List ℕ → ℕ
fragment_place full = position_or_len (λ b. b == 35) full

-- the URL without its fragment, on which filters match
abbrev pub text_of : View → List ℕ
text_of view = take view.cut view.full

abbrev pub host_of : View → List ℕ
host_of view = slice_range view.full view.host.start view.host.end

-- a lower-case letter, a digit, `-`, `.` or `_`
abbrev pub is_name_byte : ℕ → Bool
is_name_byte b = (nat_le 97 b && nat_le b 122) || (nat_le 48 b && nat_le b 57) || b == 45 || b == 46 || b == 95

-- a lower-case hexadecimal digit or `:`
abbrev pub is_address_byte : ℕ → Bool
is_address_byte b = (nat_le 97 b && nat_le b 102) || (nat_le 48 b && nat_le b 57) || b == 58

abbrev pub is_name : List ℕ → Bool
is_name host = nat_le 1 (length host) && list_all is_name_byte host

-- of the shape of an IPv6 address between brackets
abbrev pub is_address : List ℕ → Bool
is_address host =
    nat_le 3 (length host) && slice_index host 0 == 91 && slice_index host (length host - 1) == 93
    && list_all is_address_byte (slice_range host 1 (length host - 1))

-- a text that the host of a view may be
abbrev pub is_host : List ℕ → Bool
is_host host = is_name host || is_address host

-- what stands before a host: `/` or `@`
abbrev pub begins_host : ℕ → Bool
begins_host b = b == 47 || b == 64

-- what stands behind a host that is not the end of the text: `:`, `/` or `?`
abbrev pub ends_host : ℕ → Bool
ends_host b = b == 58 || b == 47 || b == 63

-- the shape that every view keeps; which URL it shows is said where it is made
pub record IsView (view : View) : Type 0 where
  pub ascii : IsAscii view.full
  pub first : 0 < view.host.start
  pub order : view.host.start < view.host.end
  pub within : view.host.end ≤ view.cut
  pub cut : view.cut ≤ length view.full
  pub fragment : view.cut ≡ fragment_place view.full
  pub host : IsTrue (is_host (host_of view))
  pub before : IsTrue (begins_host (slice_index view.full (view.host.start - 1)))
  pub behind : IsTrue (view.host.end == view.cut || ends_host (slice_index view.full view.host.end))
