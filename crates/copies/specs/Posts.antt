-- What is sent when all is stored, but for blocks that another copy wants.
-- Assumes nothing.
use Rattle.std.specs.Prelude.{ℕ, Bool, cond, not, List, [], ◌∷◌, ◌++◌, Option, Some, None, map, filter, ◌==◌, vec_items}
use Rattle.copies.specs.Messages.{Bundle, Session, Recovery, level, recovers, is_level, Agreeing, Status, Want, Message, Bundled, Done, Told, Asked}
use Rattle.copies.specs.Copy.{Way, free, under, Whom, nobody, one, others, Turn}
use Rattle.copies.specs.House.{Post}
use Rattle.copies.specs.Views.{the_message}
use Rattle.copies.specs.declared.post.Post.{Post as PostHad}

-- the other copies
abbrev pub others_of : ℕ → List ℕ
others_of me = filter (λ j. not (j == me)) (0 ∷ 1 ∷ 2 ∷ [])

abbrev pub status_of : {O : Type 0} → Agreeing O → Status O
status_of a = record { promised = a.promised; version = a.version; last = a.last; proposal = a.proposal; recovering = not (is_level a.recovery) }

abbrev pub whom_of : (me : ℕ) → Whom → List ℕ
whom_of me nobody = []
whom_of me (one r) = r ∷ []
whom_of me others = others_of me

abbrev pub post_of : {M : Type 0} → M → ℕ → Post M
post_of m j = record { to = j; what = m }

abbrev pub to_all : {M : Type 0} → M → List ℕ → List (Post M)
to_all m js = map (post_of m) js

module _ {X B O A : Type 0} where
  abbrev pub bundle_of : (me : ℕ) → Bool → Way O → List (Post (Message X B O A))
  bundle_of me b free = []
  bundle_of me b (under c) = cond b (to_all (Bundled c) (others_of me)) []

  abbrev pub reply_to : (ℕ → Session A) → ℕ → Post (Message X B O A)
  reply_to done h = post_of (Done (done h)) h

  abbrev pub want_in : (key : ℕ) → Recovery → ℕ → List (Post (Message X B O A))
  want_in key level r = []
  want_in key (recovers b t) r = post_of (Asked (record { base = b; top = t; key = key })) r ∷ []

  abbrev pub want_to : (key : ℕ) → Recovery → Option ℕ → List (Post (Message X B O A))
  want_to key z None = []
  want_to key z (Some r) = want_in key z r

  unfoldable pub posts_of : Turn X B O A → List (Post (Message X B O A))
  posts_of t =
      to_all (Told (status_of t.agreeing)) (whom_of t.memory.me t.sends.status) ++
      (bundle_of t.memory.me t.sends.bundle t.memory.way ++ (map (reply_to t.sessions) t.sends.replies ++ want_to t.memory.pass.key t.agreeing.recovery t.sends.wants))

  abbrev pub the_post : PostHad X B O A → Post (Message X B O A)
  the_post p = post_of (the_message p.what) p.to.0

  abbrev pub the_posts : List (PostHad X B O A) → List (Post (Message X B O A))
  the_posts ps = map the_post ps
