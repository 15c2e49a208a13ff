-- Inner: words as the code keeps them. Assumes nothing.
use Rattle.std.specs.Prelude.{ℕ, Bool, ◌&&◌, List, map, ltb, length}
use Rattle.std.specs.Borrow.{Bor}
use Rattle.lists.specs.Lists.{all}

abbrev pub word_texts : List (Bor (List ℕ)) → List (List ℕ)
word_texts words = map (λ word. word.now) words

-- some bytes each, and no more words than a byte counts
unfoldable pub are_words : List (List ℕ) → Bool
are_words words = ltb (length words) 256 && all (λ word. ltb 0 (length word)) words
