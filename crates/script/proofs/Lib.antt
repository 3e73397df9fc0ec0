mod Splitting
mod Counting
mod Saying
mod Reading
mod Feeding
