-- Laws of the table of names: each is a text, so what is no text is none of them. Assumes nothing.
use Rattle.std.proofs.Common.{◌≡◌, refl, sym, subst, Bool, true, false, List, [], ◌∷◌, ℕ}
use mathlib.Core.Bool.{◌&&◌, and-eq-true_iff}
use Rattle.std.specs.Prelude.{IsUtf8, bytes_eq}
use Rattle.std.specs.Str.{chars, is_utf8}
use lib.Utf8.{encode}
use Rattle.std.proofs.lemmas.Str.{IsUtf8-from_is_utf8}
use Rattle.std.proofs.lemmas.Slice.Eq.{bytes_eq-Decides}
use Rattle.script.specs.Arguments.{none}
use Rattle.script.specs.Parse.{Row, table, form_of}

-- the names of these rows are texts
all_utf8 : List Row → Bool
all_utf8 [] = true
all_utf8 (r ∷ rows) = is_utf8 r.name && all_utf8 rows

module _ (name : List ℕ) (no : IsUtf8 name → ⊥) where
  -- the name is not the first of them
  skipped : (r : Row) (rows : List Row) (t : Bool) → bytes_eq name r.name ≡ t → is_utf8 r.name ≡ true → form_of rows name ≡ none
      → form_of (r ∷ rows) name ≡ none
  unfolding form_of
  skipped r rows true e text h =
      absurd (no (subst IsUtf8 (sym ((bytes_eq-Decides name r.name).0 e)) (IsUtf8-from_is_utf8 r.name text)))
  skipped r rows false e text h = rw (e, h)

  no_row : (rows : List Row) → all_utf8 rows ≡ true → form_of rows name ≡ none
  unfolding form_of all_utf8
  no_row [] e = refl
  no_row (r ∷ rows) e =
      let both = (and-eq-true_iff (is_utf8 r.name) (all_utf8 rows)).0 e in
      skipped r rows (bytes_eq name r.name) refl both.0 (no_row rows both.1)

  pub no_utf8 : form_of table name ≡ none
  unfolding all_utf8 is_utf8 chars encode
  no_utf8 = no_row table refl
