-- How a page is written, piece by piece. This serves the code: what is promised says `page_of`.
--
--     blank            the page with nothing on it
--     with_byte p b    p with one byte more, if there is room
--     extended p t     p with t behind what is on it, as far as there is room
--
-- Laws: proofs/PageLaws.antt. Definitions only.
use Rattle.std.specs.Prelude.{ℕ, ◌+◌, List, [], ◌∷◌, nat_lt, slice_set}
use Rattle.choice.specs.Tests.{choose}
use Rattle.text.specs.declared.page.Page.{Page}
use Rattle.text.specs.Page.{page_size, page_of}

abbrev pub blank : Page
blank = page_of []

unfoldable pub with_byte : Page → ℕ → Page
with_byte p b =
    choose (nat_lt p.len page_size) (record { bytes = slice_set p.bytes p.len b; len = p.len + 1 }) p

unfoldable pub extended : Page → List ℕ → Page
extended p [] = p
extended p (b ∷ t) = extended (with_byte p b) t
