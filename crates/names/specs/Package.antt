-- Names within names: joining two, and finding a name beneath a package. Assumes nothing.
--
-- A type name starts with a dot, and a package does not. `.foo.bar` lies beneath the package `foo`, with the rest `bar`; `.foo` is
-- the package itself and `.foobar.x` is elsewhere. Every name that starts with a dot lies beneath the absent package.
use Rattle.std.specs.Prelude.{ℕ, Bool, cond, List, [], ◌∷◌, ◌++◌, length, drop}
use Rattle.lists.specs.Lists.{is_prefix_of}
use Rattle.names.specs.Bytes.{dot}

-- two names joined: if either side is empty, the second; else a dot between them
unfoldable pub concat_paths : List ℕ → List ℕ → List ℕ
concat_paths [] t = t
concat_paths (a ∷ s) [] = []
concat_paths (a ∷ s) (b ∷ t) = (a ∷ s) ++ dot ∷ b ∷ t

-- what every name beneath a package starts with: a dot, and where there is a package, it and another dot
unfoldable pub lead_of : List ℕ → List ℕ
lead_of [] = dot ∷ []
lead_of (a ∷ p) = dot ∷ (a ∷ p) ++ (dot ∷ [])

-- whether a name lies beneath a package
unfoldable pub lies_beneath : List ℕ → List ℕ → Bool
unfolding is_prefix_of lead_of
lies_beneath name «package» = is_prefix_of (lead_of «package») name

-- the rest of the name after the package and its dots, empty where the name does not lie beneath
unfoldable pub rest_beneath : List ℕ → List ℕ → List ℕ
unfolding lies_beneath lead_of
rest_beneath name «package» = cond (lies_beneath name «package») (drop (length (lead_of «package»)) name) []
