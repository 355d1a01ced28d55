-- A fair frame up to a change of its level: what is known where a level began, and another bit of the same level. Assumes nothing.
use mathlib.Core.Path.{◌≡◌, refl, ap, sym, subst, ◌∙◌}
use mathlib.Core.Bool.{Bool, true, false}
use mathlib.Core.List.{List, [], ◌∷◌, ◌++◌, append_assoc}
use Prim.Native.Nat.{ℕ, suc, ◌+◌, ◌-◌, ◌*◌, ◌≤◌, ◌<◌}
use native.Mathlib.Omega.{arith}
use lib.ListN.{length, replicate, length-append, length-replicate}
use Rattle.sci.specs.model.Framer.{searching}
use Rattle.sci.specs.declared.framer.Framer.{Framer}
use Rattle.claims_senders.specs.Fair.{Bit, Count, longer, FairBy, Fair, levels, data_of}
use Rattle.claims_senders.specs.Heard.{ended_in, earliest, latest}
use Rattle.claims_senders.proofs.Inside.{Inside}
use Rattle.claims_senders.proofs.Runs.{poured, finishes, cut}
use Rattle.claims_senders.proofs.Zeros.{Lands}
use Rattle.claims_senders.proofs.Counts.{count, Has, has_longer, not_early_holds, gathered}

-- A frame that begins after t₀ samples and is over after t', with the word W; then ys.
module _ (n stop t₀ t' W : ℕ) (ys : List Bool) where
  abbrev ending : List Bit
  ending = record { level = true; lasts = stop } ∷ []

  pub record Comes (t : ℕ) (a b c : Bool) (f : Framer) (xs : List Bool) : Type 0 where
    pub at : ℕ
    pub soon : t₀ + earliest n ≤ at
    pub late : at ≤ t₀ + latest n
    pub before : at ≤ t'
    pub same : ended_in n t a b c f xs
        ≡ record { sample = at; frame = record { word = W; noise = 0; stop = true } } ∷ ended_in n t' true true true searching ys

  -- After t samples a level began, where it may change; m bits of it, d samples, and the bits bs are to come.
  pub record Both (x : Bool) (bs : List Bit) (cs : List Count) (t d s m j : ℕ) : Type 0 where
    pub left : j ≡ length bs
    pub k₁ : ℕ
    pub u₁ : ℕ
    pub start : Has (count k₁ u₁) cs
    pub bits : k₁ + j ≡ suc n
    pub since : t₀ + u₁ ≡ t + d
    pub word : W ≡ gathered n (poured n x s m) (data_of bs)
    pub time : t' ≡ t + (d + length (levels (bs ++ ending)))
    pub fair : Fair 1 cs x (bs ++ ending)

  -- Of ones.
  pub record Ones (bs : List Bit) (cs : List Count) (t d s m j : ℕ) (f : Framer) : Type 0 where
    pub both : Both true bs cs t d s m j
    pub w : ℕ
    pub k : ℕ
    pub u : ℕ
    pub inside : Inside n true w s f
    pub low : 16 * (m + j) + 3 ≤ w
    pub high : w ≤ 16 * (m + j) + 16
    pub counted : w + u ≡ 16 * (k + m + j) + 10
    pub has : Has (count (k + m) (u + d)) cs
    pub soon : t₀ + earliest n ≤ t + w
    pub late : t + w ≤ t₀ + latest n

  -- Of zeros.
  pub record Zeros (bs : List Bit) (cs : List Count) (t d s m j : ℕ) (a b c : Bool) (f : Framer) : Type 0 where
    pub both : Both false bs cs t d s m j
    pub some : 0 < m
    pub k : ℕ
    pub u : ℕ
    pub j₀ : ℕ
    pub first : j₀ ≡ m + j
    pub lands : Lands n j₀ s k u t a b c f
    pub fresh : Has (count m d) cs
    pub has : Has (count (k + m) (u + d)) cs
    pub soon : t₀ + earliest n ≤ t + (16 * j₀ + 10)
    pub late : t + (16 * j₀ + 10) ≤ t₀ + latest n
    pub soon' : t₀ + earliest n + u ≤ t + (16 * (k + j₀) + 10)
    pub late' : t + (16 * (k + j₀) + 10) ≤ t₀ + latest n + u

  abbrev pub HeardOnes : List Bit → Type 0
  HeardOnes bs =
      (cs : List Count) (t d s m j : ℕ) (a b c : Bool) (f : Framer) → Ones bs cs t d s m j f →
      Comes t a b c f (replicate d true ++ (levels (bs ++ ending) ++ ys))

  abbrev pub HeardZeros : List Bit → Type 0
  HeardZeros bs =
      (cs : List Count) (t d s m j : ℕ) (a b c : Bool) (f : Framer) → Zeros bs cs t d s m j a b c f →
      Comes t a b c f (replicate d false ++ (levels (bs ++ ending) ++ ys))

  -- The same from samples before.
  pub before_it : {t t₁ : ℕ} {a b c a₁ b₁ c₁ : Bool} {f g : Framer} {xs zs : List Bool} →
      ended_in n t a b c f xs ≡ ended_in n t₁ a₁ b₁ c₁ g zs → Comes t₁ a₁ b₁ c₁ g zs → Comes t a b c f xs
  before_it e r = record { at = r.at; soon = r.soon; late = r.late; before = r.before; same = e ∙ r.same }

  -- A bit of the same level.
  joined : (d e : ℕ) (x : Bool) (zs : List Bool) → replicate (d + e) x ++ (zs ++ ys) ≡ replicate d x ++ ((replicate e x ++ zs) ++ ys)
  joined d e x zs =
      cut d e (d + e) x (zs ++ ys) refl ∙ ap (λ (l : List Bool). replicate d x ++ l) (sym (append_assoc (replicate e x) zs ys))

  pub levels_length : (e : ℕ) (x : Bool) (zs : List Bool) → length (replicate e x ++ zs) ≡ e + length zs
  levels_length e x zs = length-append (replicate e x) zs ∙ rw (length-replicate e x)

  -- One bit more of the level that there is.
  both_longer : (x : Bool) (e : ℕ) (bs : List Bit) (cs : List Count) (t d s m j : ℕ) → Both x (record { level = x; lasts = e } ∷ bs) cs t d s m j →
      Fair 1 (longer e cs) x (bs ++ ending) → Both x bs (longer e cs) t (d + e) s (suc m) (j - 1)
  unfolding levels data_of gathered poured
  both_longer x e bs cs t d s m j h fair =
      let l : length (replicate e x ++ levels (bs ++ ending)) ≡ e + length (levels (bs ++ ending)) = levels_length e x (levels (bs ++ ending)) in
      record {
        left = omega arith;
        k₁ = suc h.k₁;
        u₁ = h.u₁ + e;
        start = has_longer (suc h.k₁) (h.u₁ + e) e h.start refl refl;
        bits = omega arith;
        since = omega arith;
        word = h.word;
        time = omega arith;
        fair = fair;
      }

  pub ones_same : (e : ℕ) (bs : List Bit) → HeardOnes bs → HeardOnes (record { level = true; lasts = e } ∷ bs)
  unfolding levels FairBy
  ones_same e bs ih cs t d s m j a b c f h =
      let l : j ≡ suc (length bs) = h.both.left in
      let o : Ones bs (longer e cs) t (d + e) s (suc m) (j - 1) f =
      record {
        both = both_longer true e bs cs t d s m j h.both h.both.fair.1;
        w = h.w;
        k = h.k;
        u = h.u;
        inside = h.inside;
        low = omega arith;
        high = omega arith;
        counted = omega arith;
        has = has_longer (h.k + suc m) (h.u + (d + e)) e h.has (omega arith) (omega arith);
        soon = h.soon;
        late = h.late;
      } in
      subst (Comes t a b c f) (joined d e true (levels (bs ++ ending))) (ih (longer e cs) t (d + e) s (suc m) (j - 1) a b c f o)

  pub zeros_same : (e : ℕ) (bs : List Bit) → HeardZeros bs → HeardZeros (record { level = false; lasts = e } ∷ bs)
  unfolding levels FairBy
  zeros_same e bs ih cs t d s m j a b c f h =
      let l : j ≡ suc (length bs) = h.both.left in
      let o : Zeros bs (longer e cs) t (d + e) s (suc m) (j - 1) a b c f =
      record {
        both = both_longer false e bs cs t d s m j h.both h.both.fair.1;
        some = omega arith;
        k = h.k;
        u = h.u;
        j₀ = h.j₀;
        first = omega arith;
        lands = h.lands;
        fresh = has_longer (suc m) (d + e) e h.fresh refl refl;
        has = has_longer (h.k + suc m) (h.u + (d + e)) e h.has (omega arith) (omega arith);
        soon = h.soon;
        late = h.late;
        soon' = h.soon';
        late' = h.late';
      } in
      subst (Comes t a b c f) (joined d e false (levels (bs ++ ending))) (ih (longer e cs) t (d + e) s (suc m) (j - 1) a b c f o)

  -- The stop bit after a one.
  pub ones_stop : HeardOnes []
  unfolding levels FairBy gathered data_of
  ones_stop cs t d s m j a b c f h =
      let l : j ≡ 0 = h.both.left in
      let g : Has (count (h.k + m + 1) (h.u + d + stop)) (longer stop cs) =
      has_longer (h.k + m + 1) (h.u + d + stop) stop h.has (omega arith) refl in
      let p : 16 * (h.k + m + 1) ≤ h.u + d + stop + 6 = not_early_holds h.both.fair.1 g in
      let z : length (replicate stop true ++ []) ≡ stop + 0 = levels_length stop true [] in
      let y : t' ≡ d + stop + t = omega (arith, h.both.time) in
      let e : ended_in n t a b c f (replicate (d + stop) true ++ ys)
      ≡ record { sample = t + h.w; frame = record { word = poured n true s m; noise = 0; stop = true } } ∷ ended_in n t' true true true searching ys =
      finishes s m (d + stop) t t' (t + h.w) a b c ys h.inside (omega arith) (omega arith) (omega arith) y refl in
      record {
        at = t + h.w;
        soon = h.soon;
        late = h.late;
        before = omega arith;
        same = ap (ended_in n t a b c f) (sym (joined d stop true [])) ∙ rw h.both.word e;
      }
