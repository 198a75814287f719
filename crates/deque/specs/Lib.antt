-- What the functions on deques ask and promise. Links: following them, and taking a deque's back part. Releasing: tasks that become ready.
pub mod Links
pub mod Releasing
