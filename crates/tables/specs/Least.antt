-- What a closing means: the least relation that holds what was given and joins any two steps, over the names below n.
use Rattle.std.specs.Prelude.{◌≡◌, ℕ, ◌<◌, Bool, true}
use Rattle.tables.specs.Relations.{Rel}
use Rattle.tables.specs.Signed.{Signed, plus}

module _ (n : ℕ) where
  -- C holds what R holds
  abbrev pub Within : Rel → Rel → Type 0
  Within R C = (a b : ℕ) → a < n → b < n → R a b ≡ true → C a b ≡ true

  -- two steps of C are a step of C
  abbrev pub Joins : Rel → Type 0
  Joins C = (a b c : ℕ) → a < n → b < n → c < n → C a b ≡ true → C b c ≡ true → C a c ≡ true

  pub record LeastJoining (R C : Rel) : Type 0 where
    pub holds : Within R C
    pub joins : Joins C
    pub least : (D : Rel) → Within R D → Joins D → Within C D

  -- the same of two relations, where reversed steps join too
  abbrev pub SignedJoins : Signed → Type 0
  SignedJoins C = (s u : Bool) (a b c : ℕ) → a < n → b < n → c < n → C s a b ≡ true → C u b c ≡ true → C (plus s u) a c ≡ true

  abbrev pub SignedWithin : Signed → Signed → Type 0
  SignedWithin E C = (s : Bool) → Within (E s) (C s)

  pub record LeastSignedJoining (E C : Signed) : Type 0 where
    pub holds : SignedWithin E C
    pub joins : SignedJoins C
    pub least : (D : Signed) → SignedWithin E D → SignedJoins D → SignedWithin C D
