-- The same words written to two alike modules leave alike ones, and the same refusals. Assumes nothing.
use mathlib.Core.Path.{◌≡◌, refl, ap, ◌∙◌}
use mathlib.Core.Bool.{Bool, ◌||◌}
use Prim.Native.Nat.{ℕ, zero, suc, ◌*◌, ◌/◌, ◌%◌}
use Rattle.steps.specs.Iterate.{iterate}
use Rattle.qspi.specs.declared.Qspi.{Qspi}
use Rattle.qsm.specs.model.Own.{put_own}
use Rattle.qsm.specs.model.Queue.{put_queue}
use Rattle.qsm.specs.model.Map.{decode}
use Rattle.qsm.specs.model.Word.{put, unmodelled, guarded}
use Rattle.qsm.specs.model.Access.{next, store}
use Rattle.qsm.specs.declared.map.OwnWord.{OwnWord}
use Rattle.qsm.specs.declared.map.OwnWord.TheVariants.{Qsmcr, QilrQivr, Portqs, PqsparDdrqs}
use Rattle.qsm.specs.declared.map.Place.{Place}
use Rattle.qsm.specs.declared.map.Place.TheVariants.{Own, Serial, Queue, Hole}
use Rattle.qsm.specs.declared.state.Module.{Module}
use Rattle.qsm.specs.declared.access.Store.{Store}
use Rattle.claims_isolation.proofs.Masked.{masked}
use Rattle.claims_isolation.proofs.Words.{put_alike, unmodelled_alike, guarded_alike}
use Rattle.claims_isolation.proofs.Held.{beside, Alike}

-- What a write of a word makes of the queue.
abbrev queue_put : Qspi → Place → ℕ → Bool → Bool → Qspi
queue_put q (Own w) v upper lower = q
queue_put q (Serial w) v upper lower = q
queue_put q (Queue w) v upper lower = put_queue q w v upper lower
queue_put q Hole v upper lower = q

own_beside : (m : Module) (q : Qspi) (x : ℕ) (w : OwnWord) (v : ℕ) (upper lower : Bool) →
    put_own (beside m q x) w v upper lower ≡ beside (put_own m w v upper lower) q x
unfolding put_own
own_beside m q x Qsmcr v upper lower = refl
own_beside m q x QilrQivr v upper lower = refl
own_beside m q x Portqs v upper lower = refl
own_beside m q x PqsparDdrqs v upper lower = refl

put_beside : (m : Module) (q : Qspi) (x : ℕ) (p : Place) (v : ℕ) (upper lower : Bool) →
    put (beside m q x) p v upper lower ≡ beside (put m p v upper lower) (queue_put q p v upper lower) x
unfolding put
put_beside m q x (Own w) v upper lower = own_beside m q x w v upper lower
put_beside m q x (Serial w) v upper lower = refl
put_beside m q x (Queue w) v upper lower = refl
put_beside m q x Hole v upper lower = refl

own_queue : (m : Module) (w : OwnWord) (v : ℕ) (upper lower : Bool) → (put_own m w v upper lower).qspi ≡ m.qspi
unfolding put_own
own_queue m Qsmcr v upper lower = refl
own_queue m QilrQivr v upper lower = refl
own_queue m Portqs v upper lower = refl
own_queue m PqsparDdrqs v upper lower = refl

module _ (entries : ℕ → Bool) where
  queue_put_holds : (m : Module) (q : Qspi) (p : Place) (v : ℕ) (upper lower : Bool) → masked entries m.qspi ≡ masked entries q →
      masked entries (put m p v upper lower).qspi ≡ masked entries (queue_put q p v upper lower)
  unfolding put
  queue_put_holds m q (Own w) v upper lower e = ap (masked entries) (own_queue m w v upper lower) ∙ e
  queue_put_holds m q (Serial w) v upper lower e = e
  queue_put_holds m q (Queue w) v upper lower e = put_alike entries m.qspi q w v upper lower e
  queue_put_holds m q Hole v upper lower e = e

  unmodelled_same : (m : Module) (q : Qspi) (x : ℕ) (p : Place) (v : ℕ) (upper lower : Bool) → masked entries m.qspi ≡ masked entries q →
      unmodelled m p v upper lower ≡ unmodelled (beside m q x) p v upper lower
  unfolding unmodelled
  unmodelled_same m q x (Own w) v upper lower e = refl
  unmodelled_same m q x (Serial w) v upper lower e = refl
  unmodelled_same m q x (Queue w) v upper lower e = unmodelled_alike entries m.qspi q w v upper e
  unmodelled_same m q x Hole v upper lower e = refl

  guarded_same : (m : Module) (q : Qspi) (x : ℕ) (p : Place) (v : ℕ) (upper lower : Bool) → masked entries m.qspi ≡ masked entries q →
      guarded m p v upper lower ≡ guarded (beside m q x) p v upper lower
  unfolding guarded
  guarded_same m q x (Own w) v upper lower e = refl
  guarded_same m q x (Serial w) v upper lower e = refl
  guarded_same m q x (Queue w) v upper lower e = guarded_alike entries m.qspi q w v upper lower e
  guarded_same m q x Hole v upper lower e = refl

  -- A word written into both.
  word_put : (m n : Module) (p : Place) (v : ℕ) (upper lower : Bool) → Alike entries m n →
      Alike entries (put m p v upper lower) (put n p v upper lower)
  word_put m n p v upper lower a =
      record {
        queue = queue_put a.queue p v upper lower;
        inputs = a.inputs;
        is = ap (λ k. put k p v upper lower) a.is ∙ put_beside m a.queue a.inputs p v upper lower;
        same = queue_put_holds m a.queue p v upper lower a.same;
      }

  -- Two writes under way of alike modules, at the same word.
  pub record StoresAlike (s t : Store) : Type 0 where
    pub state : Alike entries s.state t.state
    pub at : s.at ≡ t.at
    pub unmodelled : s.unmodelled ≡ t.unmodelled
    pub guarded : s.guarded ≡ t.guarded

  store_same : (s t : Store) (upper lower : Bool) → StoresAlike s t → s.words ≡ t.words → StoresAlike (store upper lower s) (store upper lower t)
  unfolding store
  store_same s t upper lower a w =
      let p : Place = decode s.at in
      let v : ℕ = s.words / 65536 in
      let is : t.state ≡ beside s.state a.state.queue a.state.inputs = a.state.is in
      record {
        state = rw (← a.at, ← w) (word_put s.state t.state p v upper lower a.state);
        at = ap next a.at;
        unmodelled =
            rw (← a.at, ← w, ← a.unmodelled, is)
            (ap (λ b. s.unmodelled || b) (unmodelled_same s.state a.state.queue a.state.inputs p v upper lower a.state.same));
        guarded =
            rw (← a.at, ← w, ← a.guarded, is)
            (ap (λ b. s.guarded || b) (guarded_same s.state a.state.queue a.state.inputs p v upper lower a.state.same));
      }

  -- All the words of a write.
  pub stores_same : (n : ℕ) (s t : Store) (upper lower : Bool) → StoresAlike s t → s.words ≡ t.words →
      StoresAlike (iterate n (store upper lower) s) (iterate n (store upper lower) t)
      × ((iterate n (store upper lower) s).words ≡ (iterate n (store upper lower) t).words)
  unfolding iterate store
  stores_same zero s t upper lower a w = (a, w)
  stores_same (suc n) s t upper lower a w =
      let b : StoresAlike (iterate n (store upper lower) s) (iterate n (store upper lower) t)
      × ((iterate n (store upper lower) s).words ≡ (iterate n (store upper lower) t).words) = stores_same n s t upper lower a w in (
        store_same (iterate n (store upper lower) s) (iterate n (store upper lower) t) upper lower b.0 b.1,
        ap (λ (k : ℕ). k % 65536 * 65536) b.1,
      )
