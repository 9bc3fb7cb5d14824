-- A page: room for what a program writes at once, and how much of it is written.
--
--     page_size         the most bytes that a page holds
--     page_of t         the page with t on it, and zeros behind
--
-- Laws: proofs/PageLaws.antt. Definitions only.
use Rattle.std.specs.Prelude.{ℕ, ◌-◌, List, ◌++◌, length, replicate}
use Rattle.text.specs.declared.page.Page.{Page}

abbrev pub page_size : ℕ
page_size = 512

unfoldable pub page_of : List ℕ → Page
page_of t = record { bytes = t ++ replicate (page_size - length t) 0; len = length t }
