-- What a layer asks of the function by value that it calls, and what it leaves and returns, of a call of it. Assumes nothing.
use Rattle.std.specs.Prelude.{ℕ, ◌≡◌, List}
use Rattle.std.specs.Borrow.{Bor, MutBor}
use Rattle.std.specs.Fn.{Once}
use Rattle.trb.specs.declared.Returned.{Returned}
use Rattle.trb.specs.declared.Logged.{Logged}

-- what the function by value returned, of what the layer returned and the block that it left
abbrev pub returned_with : {A B : Type 0} → Logged A → B → Returned A B
returned_with r b = record { answer = r.answer; records = r.records; block = b }

module _ {F A B X : Type 0} (g : Once F (MutBor (List ℕ) × (B × (X × (Bor (List ℕ) × Unit {0})))) (Returned A B × (MutBor (List ℕ) × Unit {0}))) (f : F)
    (log : List ℕ) (block : B) (x : X) (bytes : List ℕ) where
  -- it may be called once at references to the log and the bytes
  abbrev pub TakesCompletion : Type 0
  TakesCompletion = (p : MutBor (List ℕ)) (q : Bor (List ℕ)) → p.now ≡ log → q.now ≡ bytes → g.pre f (p, (block, (x, (q, tt))))

  -- such a call may give the answer r with the block, and leave the log
  pub record CompletesBy (r : Logged A) (block' : B) (log' : List ℕ) : Type 0 where
    pub log_shown : MutBor (List ℕ)
    pub bytes_shown : Bor (List ℕ)
    pub shows : (log_shown.now ≡ log) × (bytes_shown.now ≡ bytes)
    pub log_left : MutBor (List ℕ)
    pub met : g.post f (log_shown, (block, (x, (bytes_shown, tt)))) (returned_with r block', (log_left, tt))
    pub leaves : log_left.now ≡ log'

module _ {F A B X M : Type 0} (g : Once F (MutBor (List ℕ) × (B × (X × (Bor M × Unit {0})))) (Returned A B × (MutBor (List ℕ) × Unit {0}))) (f : F)
    (log : List ℕ) (block : B) (x : X) (memory : M) where
  -- it may be called once at references to the log and guest memory
  abbrev pub TakesSubmission : Type 0
  TakesSubmission = (p : MutBor (List ℕ)) (q : Bor M) → p.now ≡ log → q.now ≡ memory → g.pre f (p, (block, (x, (q, tt))))

  -- such a call may give the answer r with the block, and leave the log
  pub record SubmitsBy (r : Logged A) (block' : B) (log' : List ℕ) : Type 0 where
    pub log_shown : MutBor (List ℕ)
    pub memory_shown : Bor M
    pub shows : (log_shown.now ≡ log) × (memory_shown.now ≡ memory)
    pub log_left : MutBor (List ℕ)
    pub met : g.post f (log_shown, (block, (x, (memory_shown, tt)))) (returned_with r block', (log_left, tt))
    pub leaves : log_left.now ≡ log'

module _ {F A B X M : Type 0} (g : Once F (MutBor (List ℕ) × (MutBor (List ℕ) × (B × (X × (Bor M × Unit {0}))))) (Returned A B × (MutBor (List ℕ) × (MutBor (List ℕ) × Unit {0})))) (f : F)
    (log collect : List ℕ) (block : B) (x : X) (memory : M) where
  -- it may be called once at references to the log, the collect buffer and guest memory
  abbrev pub TakesCollecting : Type 0
  TakesCollecting =
      (p c : MutBor (List ℕ)) (q : Bor M) → p.now ≡ log → c.now ≡ collect → q.now ≡ memory
      → g.pre f (p, (c, (block, (x, (q, tt)))))

  -- such a call may give the answer r with the block, and leave the log and the collect buffer
  pub record CollectsBy (r : Logged A) (block' : B) (log' collect' : List ℕ) : Type 0 where
    pub log_shown : MutBor (List ℕ)
    pub collect_shown : MutBor (List ℕ)
    pub memory_shown : Bor M
    pub shows : (log_shown.now ≡ log) × ((collect_shown.now ≡ collect) × (memory_shown.now ≡ memory))
    pub log_left : MutBor (List ℕ)
    pub collect_left : MutBor (List ℕ)
    pub met : g.post f (log_shown, (collect_shown, (block, (x, (memory_shown, tt))))) (returned_with r block', (log_left, (collect_left, tt)))
    pub leaves : (log_left.now ≡ log') × (collect_left.now ≡ collect')
