-- Why a text gives no view: its definition says so, or memory ran out for a text that is not too long.
use Rattle.std.specs.Prelude.{◌≡◌, ◌≤◌, ℕ, List, length, Err}
use Rattle.dnr_spec.specs.UrlView.{max_url, view_of}
use Rattle.dnr_spec.specs.declared.view_refusal.ViewRefusal.{ViewRefusal}
use Rattle.dnr_spec.specs.declared.view_refusal.ViewRefusal.TheVariants.{UrlTooLong, BadUrl, BadScheme, BadHost, NoMemory}

abbrev pub IsRefused : List ℕ → ViewRefusal → Type 0
IsRefused text UrlTooLong = view_of text ≡ Err UrlTooLong
IsRefused text BadUrl = view_of text ≡ Err BadUrl
IsRefused text BadScheme = view_of text ≡ Err BadScheme
IsRefused text BadHost = view_of text ≡ Err BadHost
IsRefused text NoMemory = length text ≤ max_url
