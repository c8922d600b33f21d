-- What a page of the program holds, and what writing to it does.
use Rattle.std.specs.Prelude.{ℕ, ◌≡◌, List}
use base.Fml.{GName}
use Rattle.decimal.specs.declared.writer.Page.{Page}
use Rattle.decimal.specs.Page as lent
use Rattle.decimal.specs.Page.{page_of, wrote}

-- the lent buffer, and how many of its bytes are used
abbrev pub page_in : Page → lent.Page
page_in p = page_of p.out.now p.used

-- which buffer that is
abbrev pub buffer_of : Page → GName
buffer_of p = p.out.ghost_name

-- from p to q a text was written, and the buffer is still the one that was lent
pub record Wrote (p : Page) (text : List ℕ) (q : Page) : Type 0 where
  pub buffer : buffer_of q ≡ buffer_of p
  pub page : page_in q ≡ wrote (page_in p) text
