-- Outlines whose contexts are numbered in the order in which they are entered.
use Rattle.std.specs.Prelude.{◌≡◌, ℕ, suc, ⊤}
use Rattle.outlines.specs.Outline.{Part, Parts, Try, Branch, Loop, Inner, Nil, Cons}

abbrev mutual
  -- the number behind the contexts of a part that are numbered from n
  pub after : Part → ℕ → ℕ
  after (Try line r a b) n = after_all b (after_all a n)
  after (Branch line a b) n = after_all b (after_all a n)
  after (Loop line body) n = after_all body n
  after (Inner line k body) n = after_all body (suc n)
  after x n = n

  pub after_all : Parts → ℕ → ℕ
  after_all Nil n = n
  after_all (Cons x xs) n = after_all xs (after x n)

abbrev mutual
  -- the contexts of a part are numbered from n
  pub Numbered : Part → ℕ → Type 0
  Numbered (Try line r a b) n = NumberedAll a n × NumberedAll b (after_all a n)
  Numbered (Branch line a b) n = NumberedAll a n × NumberedAll b (after_all a n)
  Numbered (Loop line body) n = NumberedAll body n
  Numbered (Inner line k body) n = (k ≡ n) × NumberedAll body (suc n)
  Numbered x n = ⊤

  pub NumberedAll : Parts → ℕ → Type 0
  NumberedAll Nil n = ⊤
  NumberedAll (Cons x xs) n = Numbered x n × NumberedAll xs (after x n)
