mod Nine
mod Changes
