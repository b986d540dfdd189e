-- What every view keeps that a text gives.
use Rattle.std.specs.Prelude.{◌≡◌, ℕ, List, Ok}
use Rattle.dnr_base.specs.View.{View, IsView}
use Rattle.dnr_spec.specs.UrlView.{view_of}

-- A view that a text gives is a view, whatever the bytes of the text.
abbrev pub TextsGiveViews : Type 0
TextsGiveViews = (text : List ℕ) (view : View) → view_of text ≡ Ok view → IsView view
